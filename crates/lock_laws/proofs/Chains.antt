-- Whoever waits, waits in the end for a holder that doesn't wait.
use Rattle.std.proofs.Common.{◌≡◌, ℕ, zero, suc, ◌<◌, ◌≤◌, Bool, true, false, cond, not, eqb, ◌&&◌, ◌||◌, ◌⊎◌, inl, inr, List, [], ◌∷◌, ◌++◌, length, Option, Some, None, refl, sym, ◌∙◌, ap, arith}
use Rattle.std.specs.Prelude.{filter, is_some}
use Rattle.std.proofs.lemmas.Bool.Decides.{Decides-eqb}
use Rattle.std.proofs.lemmas.Bool.{and_from, or_left, or_right, cases_Bool}
use Rattle.waits_for.specs.Walks.{IsWalk, Reaches}
use Rattle.waits_for.proofs.Walks.{reaches-step, reaches-trans}
use Rattle.lock_tree.specs.Paths.{same_path}
use Rattle.lock_rules.specs.State.{Claim, Table, State, held_mode, request_of}
use Rattle.lock_rules.specs.Queue.{queue, conversions, fresh_requests}
use Rattle.lock_rules.specs.Waits.{conflicts, stands_before, keeps_waiting, waits_for, waiting_sessions}
use Rattle.lock_rules.specs.Laws.{StandsBefore, HoldsInConflict, AreOwnersOpen}
use Rattle.lock_rules.specs.Lawful.{IsLawfulState}
use Rattle.lock_rules.specs.Sound.{IsOnce, IsOrdered}
use Rattle.lock_rules.proofs.Lists.{same_path-refl, eqb-refl, request_of-session, In}
use Rattle.lock_rules.proofs.Walks.{has, length-without}
use Rattle.lock_rules.proofs.Alters.{true≢false, NoCircle, waits_for-waits}
use Rattle.lock_rules.proofs.Sound.{UnfitAt, head-request, unfit-some, In-queue}
use Rattle.lock_rules.proofs.Settle.{filter-has}
use Rattle.lock_rules.proofs.Listings.{request-in}
use Rattle.lock_rules.proofs.Waiting.{request_of-filter, request_of-front, request_of-rest, waits-tell}
use Rattle.lock_laws.specs.Chains.{last_of, WaitsInTheEndFor, DoWaitersWaitForOthers, DoWaitsLeadToHolders}
use Rattle.lock_laws.proofs.FromLaws.{listed-ordered, one-once}

-- a session that waits has a request
pub some-request : (o : Option Claim) → is_some o ≡ true → (q : Claim) × (o ≡ Some q)
some-request None h = absurd (cc)
some-request (Some q) h = (q, refl)

-- the queue in which a session waits isn't empty

-- the session has a request in the list
abbrev IsIn : ℕ → List Claim → Type 0
IsIn s qs = (c : Claim) × (request_of s qs ≡ Some c)

-- a session with a request in the second of two lists has one in their concatenation
in-rest : (s : ℕ) (xs ys : List Claim) (q : Claim) → request_of s ys ≡ Some q → IsIn s (xs ++ ys)
in-rest s xs ys q h = go (request_of s xs) refl
  where
    go : (o : Option Claim) → request_of s xs ≡ o → IsIn s (xs ++ ys)
    go None e = (q, request_of-rest s xs ys e ∙ h)
    go (Some c) e = (c, request_of-front s xs ys c e)

-- a session's request is in the queue of its resource
in-queue : (t : Table) (s : ℕ) (q : Claim) → request_of s t.requests ≡ Some q → IsIn s (queue t q.resource)
in-queue t s q h = elim (cases_Bool (is_some (held_mode t q.session q.resource))) [
  | inl e ↦ (q, request_of-front s (conversions t q.resource) (fresh_requests t q.resource) q (request_of-filter s (λ c. same_path c.resource q.resource && is_some (held_mode t c.session q.resource)) t.requests q h (and_from (same_path q.resource q.resource) (is_some (held_mode t q.session q.resource)) (same_path-refl q.resource) e)))
  | inr e ↦ in-rest s (conversions t q.resource) (fresh_requests t q.resource) q (request_of-filter s (λ c. same_path c.resource q.resource && not (is_some (held_mode t c.session q.resource))) t.requests q h (and_from (same_path q.resource q.resource) (not (is_some (held_mode t q.session q.resource))) (same_path-refl q.resource) (ap not e)))
]

-- whoever waits, waits for somebody

-- who keeps a session's request waiting is one for whom it waits
edge : (t : Table) (s u : ℕ) (q : Claim) → request_of s t.requests ≡ Some q → eqb u s ≡ false → keeps_waiting t u (Some q) ≡ true → waits_for t s u ≡ true
edge t s u q e n k = and_from (not (eqb u s)) (keeps_waiting t u (request_of s t.requests)) (ap not n) (ap (keeps_waiting t u) e ∙ k)

-- the head of a list stands before each other session
head-before : (p : Claim) (ps : List Claim) (s : ℕ) → eqb p.session s ≡ false → stands_before p.session s (p ∷ ps) ≡ true
head-before p ps s n = ap (λ (b : Bool). cond b false (eqb p.session p.session || stands_before p.session s ps)) n ∙ or_left (eqb p.session p.session) (stands_before p.session s ps) (eqb-refl p.session)

-- a request that isn't the head of its queue waits for the head; the head waits for a holder, since it doesn't fit
pub waits-somebody : (t : Table) → IsOrdered t.held → IsOnce t.requests → ((x : List ℕ) → UnfitAt t x) → (s : ℕ) (q : Claim) → request_of s t.requests ≡ Some q → (u : ℕ) × (waits_for t s u ≡ true)
waits-somebody t o once unfit s q e = go (queue t q.resource) refl (in-queue t s q e)
  where
    go : (qs : List Claim) → queue t q.resource ≡ qs → IsIn s (queue t q.resource) → (u : ℕ) × (waits_for t s u ≡ true)
    go [] f m = let g = sym (ap (request_of s) f) ∙ m.1 in absurd (cc)
    go (p ∷ ps) f m = elim (cases_Bool (eqb p.session s)) [
      | inr n ↦ (
        p.session,
        edge t s p.session q e n
            (or_right (conflicts q.mode (held_mode t p.session q.resource)) (stands_before p.session q.session (queue t q.resource))
            (ap (λ (i : ℕ). stands_before p.session i (queue t q.resource)) (request_of-session s t.requests q e) ∙ (ap (stands_before p.session s) f ∙ head-before p ps s n))),
      )
      | inl y ↦
          let same = (Decides-eqb p.session s).0 y in
          let w = unfit-some t o p.session q.resource p.mode (unfit q.resource p ps f) in
          let r = (head-request t q.resource p ps once f).0 in
          let g = rw same at r in
          let own : p ≡ q = cc in (
            w.0,
            edge t s w.0 q e (ap (eqb w.0) (sym same) ∙ w.1)
                (or_left (conflicts q.mode (held_mode t w.0 q.resource)) (stands_before w.0 q.session (queue t q.resource)) (ap (λ (c : Claim). conflicts c.mode (held_mode t w.0 q.resource)) (sym own) ∙ w.2)),
          )
    ]

-- a walk from whoever waits to somebody who doesn't

-- the list without v
abbrev without : ℕ → List ℕ → List ℕ
without v vs = filter (λ x. not (eqb x v)) vs

-- a walk from s to a session without a request
record WalkToEnd (t : Table) (s : ℕ) : Type 0 where
  others : List ℕ
  last : ℕ
  walk : IsWalk (waits_for t) s others last
  free : request_of last t.requests ≡ None

-- if each waiting session waits for somebody, and no cycle is there, every walk can be continued to a session that doesn't wait
module _ (t : Table) (next : (s : ℕ) (q : Claim) → request_of s t.requests ≡ Some q → (u : ℕ) × (waits_for t s u ≡ true)) (none : NoCircle (waits_for t)) where
  -- every waiting session that s reaches is one of these
  abbrev AreLeft : ℕ → List ℕ → Type 0
  AreLeft s vs = (u : ℕ) → Reaches (waits_for t) s u → has u (waiting_sessions t) ≡ true → has u vs ≡ true

  -- a session for which s waits is the end of a walk, or waits itself and reaches fewer waiting sessions
  one-more : (vs : List ℕ) (s u : ℕ) → waits_for t s u ≡ true → AreLeft s vs → ((p : Claim) → request_of u t.requests ≡ Some p → length (without u vs) < length vs → AreLeft u (without u vs) → WalkToEnd t u) → WalkToEnd t s
  one-more vs s u step all more = go (request_of u t.requests) refl
    where
      left : AreLeft u (without u vs)
      left = λ w to waits. filter-has (λ (x : ℕ). not (eqb x u)) w vs (all w (reaches-trans (waits_for t) s u w (reaches-step (waits_for t) s u step) to) waits) (elim (cases_Bool (eqb w u)) [
        | inl y ↦ let same = (Decides-eqb w u).0 y in absurd (none u to.others (rw same at to.walk))
        | inr k ↦ ap not k
      ])

      go : (o : Option Claim) → request_of u t.requests ≡ o → WalkToEnd t s
      go None f = record { others = []; last = u; walk = step; free = f }
      go (Some p) f =
          let w = next u p f in
          let r = more p f (length-without u vs (all u (reaches-step (waits_for t) s u step) (waits_for-waits t u w.0 w.1))) left in
          record { others = u ∷ r.others; last = r.last; walk = (step, r.walk); free = r.free }

  -- a walk leads from each waiting session to one that doesn't wait
  walk-ends : (n : ℕ) (vs : List ℕ) → length vs ≤ n → (s : ℕ) (q : Claim) → request_of s t.requests ≡ Some q → AreLeft s vs → WalkToEnd t s
  walk-ends zero vs le s q e all = one-more vs s (next s q e).0 (next s q e).1 all (λ p f l a. absurd (omega arith))
  walk-ends (suc n) vs le s q e all = one-more vs s (next s q e).0 (next s q e).1 all (λ p f l a. walk-ends n (without (next s q e).0 vs) (omega arith) (next s q e).0 p f a)

-- the last session of a walk holds a lock

-- the session before the last waits for the last
last-edge : (pairs : ℕ → ℕ → Bool) (s : ℕ) (ws : List ℕ) (u : ℕ) → IsWalk pairs s ws u → pairs (last_of s ws) u ≡ true
last-edge pairs s [] u walk = walk
last-edge pairs s (w ∷ ws) u walk = last-edge pairs w ws u walk.1

-- the session of a request in the list has a request there
in-found : (p : Claim) (qs : List Claim) → In p qs → request_of p.session qs ≡ None → ⊥
in-found p [] i h = i
in-found p (q ∷ qs) i h = go (eqb q.session p.session) refl i h (in-found p qs)
  where
    go : (b : Bool) → eqb q.session p.session ≡ b → (p ≡ q) ⊎ In p qs → cond b (Some q) (request_of p.session qs) ≡ None → (In p qs → request_of p.session qs ≡ None → ⊥) → ⊥
    go true e k f next = absurd (cc)
    go false e (inl k) f next = true≢false ((Decides-eqb q.session p.session).1 (ap (λ (c : Claim). c.session) (sym k))) e
    go false e (inr k) f next = next k f

-- a session without a request stands before nobody in a queue
free-stands : (t : Table) (x : List ℕ) (u s : ℕ) → request_of u t.requests ≡ None → StandsBefore u s (queue t x) → ⊥
free-stands t x u s free b =
    let m = request_of-front u b.0 (b.2 ∷ b.1) b.3 b.7 in
    let k : request_of u (queue t x) ≡ Some b.3 = ap (request_of u) b.4 ∙ m in
    let i = In-queue t x b.3 (request-in u (queue t x) b.3 k) in
    in-found b.3 t.requests i.0 (ap (λ (v : ℕ). request_of v t.requests) (request_of-session u (queue t x) b.3 k) ∙ free)

-- a session without a request for which another waits holds what that one waits for, in a conflicting mode
pub held-edge : (t : Table) (s u : ℕ) → waits_for t s u ≡ true → request_of u t.requests ≡ None → (q : Claim) × (request_of s t.requests ≡ Some q) × HoldsInConflict t u q
held-edge t s u h free =
    let w = (waits-tell t s u).0 h in (
      w.1,
      w.2,
      elim w.3 [ inl c ↦ c | inr b ↦ absurd (free-stands t w.1.resource u s free b) ],
    )

-- the laws

-- every walk to a session that doesn't wait leads to a holder with an open transaction
walk-holds : (st : State) → AreOwnersOpen st → (s : ℕ) → WalkToEnd st.table s → (u : ℕ) × WaitsInTheEndFor st s u
walk-holds st owned s w =
    let h = held-edge st.table (last_of s w.others) w.last (last-edge (waits_for st.table) s w.others w.last w.walk) w.free in (
      w.last,
      record {
        others = w.others;
        walk = w.walk;
        request = h.0;
        asked = h.1;
        held = h.2;
        runs = ap is_some w.free;
        opened = owned w.last (inl (h.0.resource, h.2.0, h.2.1));
      },
    )

-- in a table in order, with one request a session, no head of a queue that fits and no cycle, waits lead to holders
pub waits-lead : (st : State) → IsOrdered st.table.held → IsOnce st.table.requests → ((x : List ℕ) → UnfitAt st.table x) → NoCircle (waits_for st.table) → AreOwnersOpen st → DoWaitsLeadToHolders st
waits-lead st o once unfit none owned s h =
    let q = some-request (request_of s st.table.requests) h in
    walk-holds st owned s (walk-ends st.table (waits-somebody st.table o once unfit) none (length (waiting_sessions st.table)) (waiting_sessions st.table) (omega arith) s q.0 q.1 (λ u to waits. waits))

-- in a lawful state everyone who waits, waits for another session
pub lawful-others : (st : State) → IsLawfulState st → DoWaitersWaitForOthers st
lawful-others st l s h =
    let q = some-request (request_of s st.table.requests) h in
    let w = waits-somebody st.table (listed-ordered st l.holders_listed) (one-once st l.one_request) l.nobody_waits_needlessly s q.0 q.1 in
    (w.0, (l.waits_exact s w.0).0 w.1)

-- in a lawful state waits lead to holders
pub lawful-holders : (st : State) → IsLawfulState st → DoWaitsLeadToHolders st
lawful-holders st l = waits-lead st (listed-ordered st l.holders_listed) (one-once st l.one_request) l.nobody_waits_needlessly (λ s ws walk. l.no_circle s (record { others = ws; walk = walk })) l.owners_open
