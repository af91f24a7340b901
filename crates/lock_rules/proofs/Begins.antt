-- A request that begins to wait.
use Rattle.std.proofs.Common.{◌≡◌, ℕ, Bool, true, false, cond, not, eqb, ◌&&◌, ◌||◌, inl, inr, List, [], ◌∷◌, ◌++◌, Some, None, refl, sym, ◌∙◌, ap, arith, append_assoc}
use Rattle.std.specs.Prelude.{filter, is_some}
use Rattle.std.proofs.lemmas.Bool.Decides.{nat_tests, Decides-eqb}
use Rattle.std.proofs.lemmas.Bool.{and_parts, and_from, and_right, not-true, cases_Bool}
use Rattle.lock_modes.specs.declared.Mode.{Mode}
use Rattle.lock_tree.specs.Paths.{same_path}
use Rattle.lock_modes.specs.Order.{at_or_below}
use Rattle.lock_rules.specs.State.{Claim, Table, mode_in, held_mode, mode_or_nothing, request_of, claims_but}
use Rattle.lock_rules.specs.Queue.{conversions, fresh_requests, queue, fits, with_request, is_granted_at_once, is_empty}
use Rattle.lock_rules.specs.Waits.{waits_for}
use Rattle.lock_rules.specs.Sound.{IsOnce, IsSound, Stands}
use Rattle.lock_rules.proofs.Lists.{same_path-refl, same_path-true, times-none, times-append, request_of-push, claims_but-push}
use Rattle.lock_rules.proofs.Alters.{Alters, queue-alters, request-alters, waits_for-alters, NoCircle, beside, walk-wider}
use Rattle.lock_rules.proofs.Sound.{UnfitAt, head-request}

-- the request of the session for r in mode m
abbrev pub new : ℕ → List ℕ → Mode → Claim
new s r m = record { session = s; resource = r; mode = m }

-- read backwards, a request that begins to wait is one that waits no more
pub back : (s : ℕ) (r : List ℕ) (m : Mode) (t : Table) → request_of s t.requests ≡ None → Alters s (with_request s r m t) t
back s r m t n = record { requests = sym (claims_but-push s t.requests (new s r m) n refl); others = λ u x k. refl; order = λ o. o }

-- a request appended for a session without one leaves each session one at most
pub once-push : (s : ℕ) (r : List ℕ) (m : Mode) (qs : List Claim) → IsOnce qs → request_of s qs ≡ None → IsOnce (qs ++ new s r m ∷ [])
once-push s r m qs o n u = grind (arith, nat_tests, times-append u qs (new s r m ∷ []), times-none s qs n, o u)

-- a request that begins to wait keeps the invariant, if its target is at or above the held mode and obeys the parent rule
pub begins-sound : (s : ℕ) (r : List ℕ) (m : Mode) (t : Table) → IsSound t → request_of s t.requests ≡ None → at_or_below (mode_or_nothing (held_mode t s r)) m ≡ true → Stands t s r m → IsSound (with_request s r m t)
begins-sound s r m t i n up under = record {
  order = i.order;
  once = once-push s r m t.requests i.once n;
  raising = λ u q e. elim (cases_Bool (eqb u s)) [
    | inl f ↦ let p = own u q e ((Decides-eqb u s).0 f) in rw (p.0, ← p.1) up
    | inr k ↦ i.raising u q (request-alters s (with_request s r m t) t (back s r m t n) u k ∙ e)
  ];
  asked_under = λ u q e. elim (cases_Bool (eqb u s)) [
    | inl f ↦ let p = own u q e ((Decides-eqb u s).0 f) in rw (p.0, ← p.1) under
    | inr k ↦ i.asked_under u q (request-alters s (with_request s r m t) t (back s r m t n) u k ∙ e)
  ];
  held_under = λ u x k e. i.held_under u x k e;
  agree = λ a b x k l d e f. i.agree a b x k l d e f;
}
  where
    own : (u : ℕ) (q : Claim) → request_of u (t.requests ++ new s r m ∷ []) ≡ Some q → u ≡ s → (u ≡ s) × (new s r m ≡ q)
    own u q e f = let g = request_of-push s t.requests (new s r m) n refl in (f, cc)

-- a request that begins to wait makes no cycle that avoids its session
pub begins-beside : (s : ℕ) (r : List ℕ) (m : Mode) (t : Table) → request_of s t.requests ≡ None → NoCircle (waits_for t) → NoCircle (beside s (waits_for (with_request s r m t)))
begins-beside s r m t n none a ws walk = none a ws (walk-wider (beside s (waits_for (with_request s r m t))) (waits_for t) old a ws a walk)
  where
    old : (i u : ℕ) → beside s (waits_for (with_request s r m t)) i u ≡ true → waits_for t i u ≡ true
    old i u h =
        let p = and_parts (waits_for (with_request s r m t) i u) (not (eqb i s) && not (eqb u s)) h in
        let d = and_parts (not (eqb i s)) (not (eqb u s)) p.1 in
        waits_for-alters s (with_request s r m t) t (back s r m t n) i u (not-true (eqb i s) d.0) (not-true (eqb u s) d.1) ∙ p.0

-- a filter keeps an appended claim that passes its test
filter-in : (p : Claim → Bool) (xs : List Claim) (x : Claim) → p x ≡ true → filter p (xs ++ x ∷ []) ≡ filter p xs ++ x ∷ []
filter-in p [] x h = ap (λ (b : Bool). cond b (x ∷ []) []) h
filter-in p (y ∷ xs) x h = grind (arith, filter-in p xs x h, cases_Bool (p y))

-- a filter drops an appended claim that fails its test
filter-out : (p : Claim → Bool) (xs : List Claim) (x : Claim) → p x ≡ false → filter p (xs ++ x ∷ []) ≡ filter p xs
filter-out p [] x h = ap (λ (b : Bool). cond b (x ∷ []) []) h
filter-out p (y ∷ xs) x h = grind (arith, filter-out p xs x h, cases_Bool (p y))

-- a fresh request is last in the queue
pub queue-fresh : (s : ℕ) (r : List ℕ) (m : Mode) (t : Table) → is_some (held_mode t s r) ≡ false → queue (with_request s r m t) r ≡ queue t r ++ new s r m ∷ []
queue-fresh s r m t h =
    let p : Claim → Bool = λ (q : Claim). same_path q.resource r && is_some (mode_in q.session r t.held) in
    let p' : Claim → Bool = λ (q : Claim). same_path q.resource r && not (is_some (mode_in q.session r t.held)) in
    let e : filter p (t.requests ++ new s r m ∷ []) ≡ filter p t.requests = filter-out p t.requests (new s r m) (ap (λ (b : Bool). same_path r r && b) h ∙ and_right (same_path r r) false refl) in
    let e' : filter p' (t.requests ++ new s r m ∷ []) ≡ filter p' t.requests ++ new s r m ∷ [] = filter-in p' t.requests (new s r m) (and_from (same_path r r) (not (is_some (mode_in s r t.held))) (same_path-refl r) (ap not h)) in
    ap (λ (ws : List Claim). ws ++ filter p' (t.requests ++ new s r m ∷ [])) e ∙ (ap (λ (ws : List Claim). filter p t.requests ++ ws) e' ∙ sym (append_assoc (filter p t.requests) (filter p' t.requests) (new s r m ∷ [])))

-- a conversion is queued behind the conversions and before the fresh requests
pub queue-converted : (s : ℕ) (r : List ℕ) (m : Mode) (t : Table) → is_some (held_mode t s r) ≡ true → queue (with_request s r m t) r ≡ conversions t r ++ new s r m ∷ fresh_requests t r
queue-converted s r m t h =
    let p : Claim → Bool = λ (q : Claim). same_path q.resource r && is_some (mode_in q.session r t.held) in
    let p' : Claim → Bool = λ (q : Claim). same_path q.resource r && not (is_some (mode_in q.session r t.held)) in
    let e : filter p (t.requests ++ new s r m ∷ []) ≡ filter p t.requests ++ new s r m ∷ [] = filter-in p t.requests (new s r m) (and_from (same_path r r) (is_some (mode_in s r t.held)) (same_path-refl r) h) in
    let e' : filter p' (t.requests ++ new s r m ∷ []) ≡ filter p' t.requests = filter-out p' t.requests (new s r m) (ap (λ (b : Bool). same_path r r && not b) h ∙ and_right (same_path r r) false refl) in
    ap (λ (ws : List Claim). ws ++ filter p' (t.requests ++ new s r m ∷ [])) e ∙ (ap (λ (ws : List Claim). (filter p t.requests ++ new s r m ∷ []) ++ ws) e' ∙ append_assoc (filter p t.requests) (new s r m ∷ []) (filter p' t.requests))

-- the queues of other resources stay
pub queue-beside : (s : ℕ) (r x : List ℕ) (m : Mode) (t : Table) → same_path r x ≡ false → queue (with_request s r m t) x ≡ queue t x
queue-beside s r x m t h =
    let p : Claim → Bool = λ (q : Claim). same_path q.resource x && is_some (mode_in q.session x t.held) in
    let p' : Claim → Bool = λ (q : Claim). same_path q.resource x && not (is_some (mode_in q.session x t.held)) in
    let e : filter p (t.requests ++ new s r m ∷ []) ≡ filter p t.requests = filter-out p t.requests (new s r m) (ap (λ (b : Bool). b && is_some (mode_in s x t.held)) h) in
    let e' : filter p' (t.requests ++ new s r m ∷ []) ≡ filter p' t.requests = filter-out p' t.requests (new s r m) (ap (λ (b : Bool). b && not (is_some (mode_in s x t.held))) h) in
    ap (λ (ws : List Claim). ws ++ filter p' (t.requests ++ new s r m ∷ [])) e ∙ ap (λ (ws : List Claim). filter p t.requests ++ ws) e'

-- a request that isn't granted at once leaves no head of a queue that fits
pub begins-unfit : (s : ℕ) (r : List ℕ) (m : Mode) (t : Table) → IsSound t → IsSound (with_request s r m t) → request_of s t.requests ≡ None → is_granted_at_once t s r m ≡ false → ((x : List ℕ) → UnfitAt t x) → (x : List ℕ) → UnfitAt (with_request s r m t) x
begins-unfit s r m t i i' n g h x q qs e = elim (cases_Bool (eqb q.session s)) [
  | inr k ↦ h x q (claims_but s qs) (queue-alters s (with_request s r m t) t (back s r m t n) x ∙ (ap (claims_but s) e ∙ ap (λ (b : Bool). cond (not b) (q ∷ claims_but s qs) (claims_but s qs)) k))
  | inl k ↦
      let f = (Decides-eqb q.session s).0 k in
      let own = head-request (with_request s r m t) x q qs i'.once e in
      let g2 = request_of-push s t.requests (new s r m) n refl in
      let g3 = rw f at own.0 in
      let same : new s r m ≡ q = cc in
      let path : r ≡ x = same_path-true r x (ap (λ (c : Claim). same_path c.resource x) same ∙ own.1) in
      ap (λ (c : Claim). fits t c.session x c.mode) (sym same) ∙ (ap (λ (y : List ℕ). fits t s y m) (sym path) ∙ unfit same (rw (← path) at e))
]
  where
    unfit : new s r m ≡ q → queue (with_request s r m t) r ≡ q ∷ qs → fits t s r m ≡ false
    unfit same e = go (fits t s r m) refl (is_some (held_mode t s r)) refl (queue t r) refl g
      where
        go : (b : Bool) → fits t s r m ≡ b → (c : Bool) → is_some (held_mode t s r) ≡ c → (old : List Claim) → queue t r ≡ old → (b && (c || is_empty old)) ≡ false → fits t s r m ≡ false
        go false eb c ec old eo z = eb
        go true eb true ec old eo z = absurd (cc)
        go true eb false ec [] eo z = absurd (cc)
        go true eb false ec (p ∷ ps) eo z =
            let k = queue-fresh s r m t ec in
            let k2 : q ∷ qs ≡ p ∷ (ps ++ new s r m ∷ []) = sym e ∙ (k ∙ ap (λ (ws : List Claim). ws ++ new s r m ∷ []) eo) in
            let first : new s r m ≡ p = same ∙ (cc) in
            let own = ap (λ (c : Claim). request_of c.session t.requests) first ∙ (head-request t r p ps i.once eo).0 in absurd (cc)
