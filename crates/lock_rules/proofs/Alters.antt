-- What follows if one session's locks change and it waits no more.
use Rattle.std.proofs.Common.{◌≡◌, ℕ, Bool, true, false, not, eqb, ◌&&◌, ◌||◌, ◌⊎◌, inl, inr, List, [], ◌∷◌, ◌++◌, length, Option, Some, None, refl, sym, ◌∙◌, ap, arith, map}
use Rattle.std.specs.Prelude.{filter, is_some}
use Rattle.std.proofs.lemmas.Bool.Decides.{nat_tests, Decides-eqb}
use Rattle.std.proofs.lemmas.Bool.{and_parts, and_from, and_right, cases_Bool}
use Rattle.lock_modes.specs.declared.Mode.{Mode}
use Rattle.lock_tree.specs.Paths.{same_path}
use Rattle.waits_for.specs.Walks.{IsWalk}
use Rattle.waits_for.proofs.Walks.{walk-append}
use Rattle.lock_rules.specs.State.{Claim, Table, mode_in, request_of, claims_but}
use Rattle.lock_rules.specs.Queue.{queue}
use Rattle.lock_rules.specs.Waits.{conflicts, stands_before, keeps_waiting, waits_for, waiting_sessions, reaches}
use Rattle.lock_rules.specs.Sound.{IsOrdered}
use Rattle.lock_rules.proofs.Lists.{request_of-claims_but, request_of-claims_but_other, request_of-session, filter-swap, claims_but-append, stands_before-claims_but}
use Rattle.lock_rules.proofs.Walks.{has, AllIn, found}
pub use Rattle.sequential.proofs.Ranges.{true≢false}

-- one relation for every single change: v waits no more, the locks of others stay, and holders stay in order. It covers a
-- grant, a release, the end of a transaction, a victim and, read backwards, a request that begins to wait
pub record Alters (v : ℕ) (t t' : Table) : Type 0 where
  pub requests : t'.requests ≡ claims_but v t.requests
  pub others : (u : ℕ) (x : List ℕ) → eqb u v ≡ false → mode_in u x t'.held ≡ mode_in u x t.held
  pub order : IsOrdered t.held → IsOrdered t'.held

-- every queue is as before, without v
pub queue-alters : (v : ℕ) (t t' : Table) → Alters v t t' → (r : List ℕ) → queue t' r ≡ claims_but v (queue t r)
queue-alters v t t' a r =
    ap (λ (ws : List Claim). filter (λ q. same_path q.resource r && is_some (mode_in q.session r t'.held)) ws ++ filter (λ q. same_path q.resource r && not (is_some (mode_in q.session r t'.held))) ws) a.requests
    ∙ (ap (λ (ws : List Claim). ws ++ filter (λ q. same_path q.resource r && not (is_some (mode_in q.session r t'.held))) (claims_but v t.requests))
    (filter-swap v (λ q. same_path q.resource r && is_some (mode_in q.session r t.held)) (λ q. same_path q.resource r && is_some (mode_in q.session r t'.held)) t.requests (λ q n. ap (λ (o : Option Mode). same_path q.resource r && is_some o) (a.others q.session r n)))
    ∙ (ap (λ (ws : List Claim). claims_but v (filter (λ q. same_path q.resource r && is_some (mode_in q.session r t.held)) t.requests) ++ ws)
    (filter-swap v (λ q. same_path q.resource r && not (is_some (mode_in q.session r t.held))) (λ q. same_path q.resource r && not (is_some (mode_in q.session r t'.held))) t.requests (λ q n. ap (λ (o : Option Mode). same_path q.resource r && not (is_some o)) (a.others q.session r n)))
    ∙ sym (claims_but-append v (filter (λ q. same_path q.resource r && is_some (mode_in q.session r t.held)) t.requests) (filter (λ q. same_path q.resource r && not (is_some (mode_in q.session r t.held))) t.requests))))

-- the requests of others stay
pub request-alters : (v : ℕ) (t t' : Table) → Alters v t t' → (u : ℕ) → eqb u v ≡ false → request_of u t'.requests ≡ request_of u t.requests
request-alters v t t' a u n = ap (request_of u) a.requests ∙ request_of-claims_but_other u v t.requests n

-- v has no request
pub request-gone : (v : ℕ) (t t' : Table) → Alters v t t' → request_of v t'.requests ≡ None
request-gone v t t' a = ap (request_of v) a.requests ∙ request_of-claims_but v t.requests

-- a session that waits isn't v
pub waiting-other : (v : ℕ) (t t' : Table) → Alters v t t' → (s : ℕ) (q : Claim) → request_of s t'.requests ≡ Some q → s ≡ v → ⊥
waiting-other v t t' a s q e f = let g = request-gone v t t' a in cc

-- edges of the waits-for graph

-- whether another session blocks the request of another stays
keeps_waiting-alters : (v : ℕ) (t t' : Table) → Alters v t t' → (b : ℕ) → eqb b v ≡ false → (o : Option Claim) → ((q : Claim) → o ≡ Some q → eqb q.session v ≡ false) → keeps_waiting t' b o ≡ keeps_waiting t b o
keeps_waiting-alters v t t' a b n None h = refl
keeps_waiting-alters v t t' a b n (Some q) h =
    ap (λ (o : Option Mode). conflicts q.mode o || stands_before b q.session (queue t' q.resource)) (a.others b q.resource n)
    ∙ ap (λ (x : Bool). conflicts q.mode (mode_in b q.resource t.held) || x) (ap (stands_before b q.session) (queue-alters v t t' a q.resource) ∙ stands_before-claims_but b q.session v (queue t q.resource) (h q refl) n)

-- the edges between two other sessions stay
pub waits_for-alters : (v : ℕ) (t t' : Table) → Alters v t t' → (s u : ℕ) → eqb s v ≡ false → eqb u v ≡ false → waits_for t' s u ≡ waits_for t s u
waits_for-alters v t t' a s u n k =
    ap (λ (b : Bool). not (eqb u s) && b)
    (ap (keeps_waiting t' u) (request-alters v t t' a s n) ∙ keeps_waiting-alters v t t' a u k (request_of s t.requests) (λ q e. ap (λ (i : ℕ). eqb i v) (request_of-session s t.requests q e) ∙ n))

-- v waits for nobody
pub waits_for-gone : (v : ℕ) (t t' : Table) → Alters v t t' → (w : ℕ) → waits_for t' v w ≡ false
waits_for-gone v t t' a w = ap (λ (o : Option Claim). not (eqb w v) && keeps_waiting t' w o) (request-gone v t t' a) ∙ and_right (not (eqb w v)) false refl

-- cycles

-- no walk leads back to its start
abbrev pub NoCircle : (ℕ → ℕ → Bool) → Type 0
NoCircle pairs = (s : ℕ) (ws : List ℕ) → IsWalk pairs s ws s → ⊥

-- the edges that neither begin nor end at a
abbrev pub beside : ℕ → (ℕ → ℕ → Bool) → ℕ → ℕ → Bool
beside a pairs t u = pairs t u && (not (eqb t a) && not (eqb u a))

-- if each edge is an old one or leads to a session that waits for nobody, no cycle is new
module _ (old new : ℕ → ℕ → Bool) (grown : (t u : ℕ) → new t u ≡ true → (old t u ≡ true) ⊎ ((v : ℕ) → new u v ≡ false)) where
  -- if the end of a walk has an edge out, the walk was one before
  kept-walk : (t : ℕ) (ws : List ℕ) (u : ℕ) → IsWalk new t ws u → ((v : ℕ) × (new u v ≡ true)) → IsWalk old t ws u
  kept-walk t [] u walk out = elim (grown t u walk) [ inl k ↦ k | inr k ↦ absurd (true≢false out.1 (k out.0)) ]
  kept-walk t (w ∷ ws) u walk out = (elim (grown t w walk.0) [ inl k ↦ k | inr k ↦ absurd (dead w ws u walk.1 k) ], kept-walk w ws u walk.1 out)
    where
      dead : (w : ℕ) (ws : List ℕ) (u : ℕ) → IsWalk new w ws u → ((v : ℕ) → new w v ≡ false) → ⊥
      dead w [] u walk k = let e = k u in cc
      dead w (x ∷ ws) u walk k = let e = k x in let f = walk.0 in cc

  -- a graph without a cycle stays so
  pub kept-circle : NoCircle old → NoCircle new
  kept-circle none s [] walk = none s [] (kept-walk s [] s walk (s, walk))
  kept-circle none s (w ∷ ws) walk = none s (w ∷ ws) (kept-walk s (w ∷ ws) s walk (w, walk.0))

-- after a change, every edge is an old one or leads to v, which waits for nobody
grown-alters : (v : ℕ) (t t' : Table) → Alters v t t' → (s u : ℕ) → waits_for t' s u ≡ true → (waits_for t s u ≡ true) ⊎ ((w : ℕ) → waits_for t' u w ≡ false)
grown-alters v t t' a s u h = elim (cases_Bool (eqb u v)) [
  | inl e ↦ inr (λ w. ap (λ (i : ℕ). waits_for t' i w) ((Decides-eqb u v).0 e) ∙ waits_for-gone v t t' a w)
  | inr n ↦ elim (cases_Bool (eqb s v)) [
    | inl e ↦ absurd (true≢false h (ap (λ (i : ℕ). waits_for t' i u) ((Decides-eqb s v).0 e) ∙ waits_for-gone v t t' a u))
    | inr k ↦ inl (sym (waits_for-alters v t t' a s u k n) ∙ h)
  ]
]

-- if v waits no more, no cycle is new
pub circle-alters : (v : ℕ) (t t' : Table) → Alters v t t' → NoCircle (waits_for t) → NoCircle (waits_for t')
circle-alters v t t' a = kept-circle (waits_for t) (waits_for t') (grown-alters v t t' a)

-- if v waits no more, no cycle that avoids s is new
pub circle-alters_beside : (v s : ℕ) (t t' : Table) → Alters v t t' → NoCircle (beside s (waits_for t)) → NoCircle (beside s (waits_for t'))
circle-alters_beside v s t t' a = kept-circle (beside s (waits_for t)) (beside s (waits_for t')) grown
  where
    grown : (i u : ℕ) → beside s (waits_for t') i u ≡ true → (beside s (waits_for t) i u ≡ true) ⊎ ((w : ℕ) → beside s (waits_for t') u w ≡ false)
    grown i u h = let p = and_parts (waits_for t' i u) (not (eqb i s) && not (eqb u s)) h in elim (grown-alters v t t' a i u p.0) [
      | inl k ↦ inl (and_from (waits_for t i u) (not (eqb i s) && not (eqb u s)) k p.1)
      | inr k ↦ inr (λ w. ap (λ (b : Bool). b && (not (eqb u s) && not (eqb w s))) (k w))
    ]

-- a walk stays a walk if edges are added
pub walk-wider : (old new : ℕ → ℕ → Bool) → ((t u : ℕ) → old t u ≡ true → new t u ≡ true) → (t : ℕ) (ws : List ℕ) (u : ℕ) → IsWalk old t ws u → IsWalk new t ws u
walk-wider old new h t [] u walk = h t u walk
walk-wider old new h t (w ∷ ws) u walk = (h t w walk.0, walk-wider old new h w ws u walk.1)

-- a walk between two other sessions avoids a, or goes through it
beside-or : (pairs : ℕ → ℕ → Bool) (a t : ℕ) (ws : List ℕ) (u : ℕ) → eqb t a ≡ false → eqb u a ≡ false → IsWalk pairs t ws u → IsWalk (beside a pairs) t ws u ⊎ (((xs : List ℕ) × IsWalk pairs t xs a) × ((ys : List ℕ) × IsWalk pairs a ys u))
beside-or pairs a t [] u n k walk = inl (and_from (pairs t u) (not (eqb t a) && not (eqb u a)) walk (and_from (not (eqb t a)) (not (eqb u a)) (ap not n) (ap not k)))
beside-or pairs a t (w ∷ ws) u n k walk = elim (cases_Bool (eqb w a)) [
  | inl e ↦ let f = (Decides-eqb w a).0 e in inr (([], rw f at walk.0), (ws, rw f at walk.1))
  | inr m ↦ elim (beside-or pairs a w ws u m k walk.1) [
    | inl r ↦ inl (and_from (pairs t w) (not (eqb t a) && not (eqb w a)) walk.0 (and_from (not (eqb t a)) (not (eqb w a)) (ap not n) (ap not m)), r)
    | inr r ↦ inr ((w ∷ r.0.0, (walk.0, r.0.1)), r.1)
  ]
]

-- there is no cycle if none avoids a and none goes through a
pub no_circle-from : (pairs : ℕ → ℕ → Bool) (a : ℕ) → NoCircle (beside a pairs) → ((ws : List ℕ) → IsWalk pairs a ws a → ⊥) → NoCircle pairs
no_circle-from pairs a none own s ws walk = elim (cases_Bool (eqb s a)) [
  | inl e ↦ let f = (Decides-eqb s a).0 e in own ws (rw f at walk)
  | inr n ↦ elim (beside-or pairs a s ws s n n walk) [
    | inl r ↦ none s ws r
    | inr r ↦ own (r.1.0 ++ s ∷ r.0.0) (walk-append pairs a r.1.0 s r.0.0 a r.1.1 r.0.1)
  ]
]

-- every session on a walk waits, except perhaps the last

-- a session with a request is among the waiting ones
has-request : (s : ℕ) (qs : List Claim) (q : Claim) → request_of s qs ≡ Some q → has s (map (λ (c : Claim). c.session) qs) ≡ true
has-request s [] q h = absurd (cc)
has-request s (c ∷ qs) q h = grind (arith, nat_tests, has-request s qs q)

-- a session with an edge out is among the waiting ones
pub waits_for-waits : (t : Table) (s u : ℕ) → waits_for t s u ≡ true → has s (waiting_sessions t) ≡ true
waits_for-waits t s u h = go (request_of s t.requests) refl (and_parts (not (eqb u s)) (keeps_waiting t u (request_of s t.requests)) h).1
  where
    go : (o : Option Claim) → request_of s t.requests ≡ o → keeps_waiting t u o ≡ true → has s (waiting_sessions t) ≡ true
    go None e k = absurd (cc)
    go (Some q) e k = has-request s t.requests q e

-- every session on a walk, between its ends, is among the waiting ones
all_in-walk : (t : Table) (s : ℕ) (ws : List ℕ) (u : ℕ) → IsWalk (waits_for t) s ws u → AllIn ws (waiting_sessions t)
all_in-walk t s [] u walk = tt
all_in-walk t s (w ∷ []) u walk = (waits_for-waits t w u walk.1, tt)
all_in-walk t s (w ∷ x ∷ ws) u walk = (waits_for-waits t w x walk.1.0, all_in-walk t w (x ∷ ws) u walk.1)

-- the bounded test finds every walk
pub walk-tested : (t : Table) (s : ℕ) (ws : List ℕ) (u : ℕ) → IsWalk (waits_for t) s ws u → reaches t s u ≡ true
walk-tested t s ws u walk = found (waits_for t) (length (waiting_sessions t)) (waiting_sessions t) s u ws (omega arith) walk (all_in-walk t s ws u walk)

-- if the test finds no cycle through s, there is none
pub none-reached : (t : Table) (s : ℕ) → reaches t s s ≡ false → (ws : List ℕ) → IsWalk (waits_for t) s ws s → ⊥
none-reached t s h ws walk = true≢false (walk-tested t s ws s walk) h
