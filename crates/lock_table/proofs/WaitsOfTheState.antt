-- The edges of the waits-for graph are the waits of the state that the lock table represents.
use Rattle.std.proofs.Common.{◌≡◌, ℕ, ◌+◌, ◌≤◌, Bool, true, false, cond, not, eqb, ◌&&◌, ◌||◌, ◌⊎◌, inl, inr, List, [], ◌∷◌, ◌++◌, map, Option, Some, None, is_some, refl, sym, ◌∙◌, ap, arith, subst}
use Rattle.std.proofs.Math.Bool.{and-false, or-false}
use Rattle.std.specs.Prelude.{filter}
use Rattle.std.proofs.lemmas.Bool.Decides.{nat_tests, Decides-eqb}
use Rattle.std.proofs.lemmas.Bool.{both_ways, and_parts, and_from, cases_Bool}
use Rattle.lock_modes.specs.declared.Mode.{Mode}
use Rattle.lock_modes.specs.Compatibility.{are_compatible}
use Rattle.lock_tree.specs.Paths.{same_path}
use Rattle.lock_rules.specs.State as rules
use Rattle.lock_rules.specs.Queue.{queue}
use Rattle.lock_rules.specs.Waits.{conflicts, stands_before, keeps_waiting, waits_for, resource_of_request}
use Rattle.lock_rules.specs.Sound.{IsSound, after, ascend, times}
use Rattle.lock_rules.proofs.Lists.{same_path-refl, same_path-true, request_of-session}
use Rattle.lock_rules.proofs.Steps.{is-none}
use Rattle.lock_rules.proofs.Waiting.{request_of-filter, request_of-front, request_of-rest}
use Rattle.lock_holders.specs.declared.session_mode.SessionMode.{SessionMode}
use Rattle.lock_table.specs.declared.table.LockTable.{LockTable}
use Rattle.lock_table.specs.inner.Cells.{View}
use Rattle.lock_holders.specs.SessionModes.{has_session, mode_of, pair_of, Ascends, holder_blocks}
use Rattle.session_locks.specs.Resources.{has_path}
use Rattle.lock_table.specs.inner.Lockers.{is_wanted}
use Rattle.lock_table.specs.Changes.{standings, standing, IsWhole}
use Rattle.lock_table.specs.inner.Blocking.{is_ahead, target_blocks, view_blocks, blocks_at, blocks}
use Rattle.lock_table.specs.Shows.{short, claims_on, view, Shows}
use Rattle.lock_table.proofs.TableViews.{mode-seen}
use Rattle.lock_table.proofs.LockCounts.{queue-has, waits_on-once, waits-told}
use Rattle.lock_table.proofs.AfterStep.{ascends-seen}

-- the queue

-- the sessions ahead of a request are those ahead of it in the table
stands-seen : (u s : ℕ) (qs : List rules.Claim) → is_ahead u s (map short qs) ≡ stands_before u s qs
stands-seen u s [] = refl
stands-seen u s (q ∷ qs) = ap (λ (b : Bool). cond (eqb q.session s) false (eqb q.session u || b)) (stands-seen u s qs)

-- no session is ahead of itself
stands-self : (s : ℕ) (qs : List rules.Claim) → stands_before s s qs ≡ false
stands-self s [] = refl
stands-self s (q ∷ qs) = go (eqb q.session s) (stands-self s qs)
  where
    go : (b : Bool) → stands_before s s qs ≡ false → cond b false (b || stands_before s s qs) ≡ false
    go true n = refl
    go false n = n

-- the mode of a request in the view is that of its claim
pub mode-short : (s : ℕ) (qs : List rules.Claim) (q : rules.Claim) → rules.request_of s qs ≡ Some q → mode_of s (map short qs) ≡ Some q.mode
mode-short s [] q h = absurd (cc)
mode-short s (p ∷ qs) q h = go (eqb p.session s) h (mode-short s qs q)
  where
    go : (b : Bool) → cond b (Some p) (rules.request_of s qs) ≡ Some q → (rules.request_of s qs ≡ Some q → mode_of s (map short qs) ≡ Some q.mode) → cond b (Some p.mode) (mode_of s (map short qs)) ≡ Some q.mode
    go true h next = let same : p ≡ q = cc in ap (λ (c : rules.Claim). Some c.mode) same
    go false h next = next h

-- a session without a request has none among some of the requests
none-kept : (s : ℕ) (p : rules.Claim → Bool) (qs : List rules.Claim) → times s qs ≡ 0 → rules.request_of s (filter p qs) ≡ None
none-kept s p [] h = refl
none-kept s p (c ∷ qs) h = grind (arith, nat_tests, cases_Bool (p c), none-kept s p qs)

-- a session whose only request is left out has none among the others
lost-request : (s : ℕ) (p : rules.Claim → Bool) (qs : List rules.Claim) (q : rules.Claim) → times s qs ≤ 1 → rules.request_of s qs ≡ Some q → p q ≡ false → rules.request_of s (filter p qs) ≡ None
lost-request s p [] q o h e = refl
lost-request s p (c ∷ qs) q o h e = go (eqb c.session s) (p c) refl refl o h (lost-request s p qs q) (none-kept s p qs)
  where
    go : (b k : Bool) → eqb c.session s ≡ b → p c ≡ k → cond b 1 0 + times s qs ≤ 1 → cond b (Some c) (rules.request_of s qs) ≡ Some q
        → (times s qs ≤ 1 → rules.request_of s qs ≡ Some q → p q ≡ false → rules.request_of s (filter p qs) ≡ None) → (times s qs ≡ 0 → rules.request_of s (filter p qs) ≡ None)
        → rules.request_of s (cond k (c ∷ filter p qs) (filter p qs)) ≡ None
    go true true f g o h next none = let same : c ≡ q = cc in absurd (both_ways (p q) e (sym (ap p same) ∙ g))
    go true false f g o h next none = none (omega (arith, o))
    go false true f g o h next none = ap (λ (b : Bool). cond b (Some c) (rules.request_of s (filter p qs))) f ∙ next (omega (arith, o)) h e
    go false false f g o h next none = next (omega (arith, o)) h e

-- the request of a session is in the queue of its resource
pub request-queued : (s : ℕ) (t : rules.Table) (q : rules.Claim) → times s t.requests ≤ 1 → rules.request_of s t.requests ≡ Some q → rules.request_of s (queue t q.resource) ≡ Some q
request-queued s t q o h = go (is_some (rules.held_mode t q.session q.resource)) refl
  where
    r : List ℕ
    r = q.resource

    p : rules.Claim → Bool
    p c = same_path c.resource r && is_some (rules.held_mode t c.session r)

    p' : rules.Claim → Bool
    p' c = same_path c.resource r && not (is_some (rules.held_mode t c.session r))

    go : (b : Bool) → is_some (rules.held_mode t q.session r) ≡ b → rules.request_of s (filter p t.requests ++ filter p' t.requests) ≡ Some q
    go true e = request_of-front s (filter p t.requests) (filter p' t.requests) q (request_of-filter s p t.requests q h (and_from (same_path r r) (is_some (rules.held_mode t q.session r)) (same_path-refl r) e))
    go false e =
        request_of-rest s (filter p t.requests) (filter p' t.requests) (lost-request s p t.requests q o h (ap (λ (b : Bool). same_path r r && b) e ∙ and-false (same_path r r)))
        ∙ request_of-filter s p' t.requests q h (and_from (same_path r r) (not (is_some (rules.held_mode t q.session r))) (same_path-refl r) (ap not e))

-- the holders

-- a session below all holders of a list is none of them, and blocks nobody there
none-after : (s u : ℕ) (m : Mode) (hs : List SessionMode) → after u (map pair_of hs) ≡ true → holder_blocks s m u hs ≡ false
none-after s u m [] h = refl
none-after s u m (k ∷ hs) h = grind (arith, nat_tests, none-after s u m hs)

-- among holders in order, the one of a session decides whether the session blocks
holder-seen : (s u : ℕ) (m : Mode) (hs : List SessionMode) → Ascends hs → holder_blocks s m u hs ≡ (not (eqb u s) && conflicts m (mode_of u hs))
holder-seen s u m [] h = sym (and-false (not (eqb u s)))
holder-seen s u m (k ∷ hs) h =
    let p = and_parts (after k.session (map pair_of hs)) (ascend (map pair_of hs)) h in
    go (cases_Bool (eqb k.session u)) p.0 (holder-seen s u m hs p.1)
  where
    go : (eqb k.session u ≡ true) ⊎ (eqb k.session u ≡ false) → after k.session (map pair_of hs) ≡ true → holder_blocks s m u hs ≡ (not (eqb u s) && conflicts m (mode_of u hs))
        → holder_blocks s m u (k ∷ hs) ≡ (not (eqb u s) && conflicts m (mode_of u (k ∷ hs)))
    go (inl e) f next =
        let g = (Decides-eqb k.session u).0 e in
        let none = none-after s u m hs (subst (λ (i : ℕ). after i (map pair_of hs) ≡ true) g f) in
        (λ i. (e i && (not (eqb (g i) s) && not (are_compatible m k.mode))) || none i)
        ∙ (or-false (not (eqb u s) && not (are_compatible m k.mode)) ∙ sym (ap (λ (b : Bool). not (eqb u s) && conflicts m (cond b (Some k.mode) (mode_of u hs))) e))
    go (inr e) f next =
        ap (λ (b : Bool). (b && (not (eqb k.session s) && not (are_compatible m k.mode))) || holder_blocks s m u hs) e
        ∙ (next ∙ sym (ap (λ (b : Bool). not (eqb u s) && conflicts m (cond b (Some k.mode) (mode_of u hs))) e))

-- the whole graph

module _ (d : LockTable) (st : rules.State) (w : IsWhole d) (i : IsSound st.table) (h : Shows d st) where
  -- who blocks a request in the view keeps it waiting in the state
  blocks-request : (s u : ℕ) (q : rules.Claim) → rules.request_of s st.table.requests ≡ Some q → view_blocks s u (view q.resource st.table) ≡ (not (eqb u s) && keeps_waiting st.table u (Some q))
  blocks-request s u q e =
      let m = mode-short s (queue st.table q.resource) q (request-queued s st.table q (i.once s) e) in
      let a = holder-seen s u q.mode (claims_on q.resource st.table.held) (ascends-seen st.table i q.resource) in
      let b = stands-seen u s (queue st.table q.resource) in
      ap (target_blocks s u (view q.resource st.table)) m
      ∙ ((λ j. a j || b j)
      ∙ (ap (λ (o : Option Mode). (not (eqb u s) && conflicts q.mode o) || stands_before u s (queue st.table q.resource)) (sym (mode-seen u q.resource st.table.held))
      ∙ (both (eqb u s) refl (conflicts q.mode (rules.held_mode st.table u q.resource))
      ∙ ap (λ (j : ℕ). not (eqb u s) && (conflicts q.mode (rules.held_mode st.table u q.resource) || stands_before u j (queue st.table q.resource))) (sym (request_of-session s st.table.requests q e)))))
    where
      both : (x : Bool) → eqb u s ≡ x → (c : Bool) → ((not x && c) || stands_before u s (queue st.table q.resource)) ≡ (not x && (c || stands_before u s (queue st.table q.resource)))
      both true f c = let g = (Decides-eqb u s).0 f in ap (λ (j : ℕ). stands_before j s (queue st.table q.resource)) g ∙ stands-self s (queue st.table q.resource)
      both false f c = refl

  -- the resource that a locker waits for is that of the request in the state
  waits-where : (s : ℕ) (r : List ℕ) → (standing s d).wanted ≡ Some r → (q : rules.Claim) × (rules.request_of s st.table.requests ≡ Some q) × (q.resource ≡ r)
  waits-where s r e = go (rules.request_of s st.table.requests) refl there
    where
      there : has_path r (resource_of_request (rules.request_of s st.table.requests)) ≡ true
      there =
          sym (waits_on-once s r st.table.requests (i.once s)) ∙ (sym (queue-has s r st.table)
          ∙ (sym (ap (λ (v : View). has_session s v.waiting) (h.views r)) ∙ (sym ((w.agree r).wanted s) ∙ (ap (is_wanted r) e ∙ same_path-refl r))))

      go : (o : Option rules.Claim) → rules.request_of s st.table.requests ≡ o → has_path r (resource_of_request o) ≡ true → (q : rules.Claim) × (rules.request_of s st.table.requests ≡ Some q) × (q.resource ≡ r)
      go None f k = absurd (cc)
      go (Some q) f k = (q, f, same_path-true q.resource r (sym (or-false (same_path q.resource r)) ∙ k))

  -- an edge that cells and lockers determine is a wait of the state
  pub pairs-shown : (s u : ℕ) → blocks d.cells.entries (standings d) s u ≡ waits_for st.table s u
  pairs-shown s u = go (standing s d).wanted refl
    where
      none-found : rules.request_of s st.table.requests ≡ None → waits_for st.table s u ≡ false
      none-found e = ap (λ (o : Option rules.Claim). not (eqb u s) && keeps_waiting st.table u o) e ∙ and-false (not (eqb u s))

      idle : (standing s d).wanted ≡ None → rules.request_of s st.table.requests ≡ None
      idle e = is-none (rules.request_of s st.table.requests) (sym (waits-told s st.table (standing s d).wanted (λ x. (w.agree x).wanted s ∙ ap (λ (v : View). has_session s v.waiting) (h.views x))) ∙ ap is_some e)

      go : (o : Option (List ℕ)) → (standing s d).wanted ≡ o → blocks d.cells.entries (standings d) s u ≡ waits_for st.table s u
      go None e = ap (blocks_at s u d.cells.entries) e ∙ sym (none-found (idle e))
      go (Some r) e =
          let q = waits-where s r e in
          ap (blocks_at s u d.cells.entries) e
          ∙ (ap (view_blocks s u) (h.views r)
          ∙ (ap (λ (x : List ℕ). view_blocks s u (view x st.table)) (sym q.2)
          ∙ (blocks-request s u q.0 q.1 ∙ ap (λ (o : Option rules.Claim). not (eqb u s) && keeps_waiting st.table u o) (sym q.1))))
