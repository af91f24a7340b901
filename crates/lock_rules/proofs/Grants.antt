-- A grant stands.
use Rattle.std.proofs.Common.{◌≡◌, ◌≢◌, ℕ, true, false, eqb, inl, inr, List, [], ◌∷◌, ◌++◌, Option, Some, None, refl, sym, ◌∙◌, ap}
use Rattle.std.specs.List.{All}
use Rattle.std.proofs.lemmas.Bool.Decides.{Decides-eqb}
use Rattle.std.proofs.lemmas.List.Elements.{All-head, All-tail}
use Rattle.std.proofs.lemmas.Bool.{cases_Bool}
use Rattle.lock_modes.specs.declared.Mode.{Mode}
use Rattle.lock_modes.specs.Order.{at_or_below}
use Rattle.lock_modes.proofs.Order.{order-from, at_or_below-refl, at_or_below-trans}
use Rattle.lock_rules.specs.declared.calls.Call.{Call}
use Rattle.lock_rules.specs.declared.calls.Call.TheVariants.{Begin, Lock, Convert, Poll, Release, Commit, Abort, Try, Withdraw, Restart}
use Rattle.lock_rules.specs.declared.calls.Why.{Why}
use Rattle.lock_rules.specs.Entries.{Entry}
use Rattle.lock_rules.specs.State.{Table, State, held_mode, mode_or_nothing, request_of}
use Rattle.lock_rules.specs.Step.{is_nothing, tests, first_failing, act, outcome_of, step}
use Rattle.lock_rules.specs.Legal.{state_after, state_of}
use Rattle.lock_rules.specs.Laws.{DoesKeepLock, DoesGrantStand}
use Rattle.lock_rules.proofs.Lists.{same_path_tells}
use Rattle.lock_rules.proofs.Alters.{true≢false}
use Rattle.lock_rules.proofs.Marks.{some-above}
use Rattle.lock_rules.proofs.Sound.{eqb-swap}
use Rattle.lock_rules.proofs.Cuts.{IsQuiescent, released-rises, ended-rises, cancelled-follows}
use Rattle.lock_rules.proofs.Steps.{all-pass, is-none, lock-kept, convert-kept, step-lawful, state-lawful, try-locks}
use Rattle.lock_rules.proofs.Histories.{state_after-append}

-- the session's lock on r didn't fall
abbrev pub IsHeldOn : ℕ → List ℕ → Table → Table → Type 0
IsHeldOn s r t t' = at_or_below (mode_or_nothing (held_mode t s r)) (mode_or_nothing (held_mode t' s r)) ≡ true

-- the call doesn't give up the lock on r
abbrev Keeps : List ℕ → Call → Type 0
Keeps r c = (c ≢ Commit) × (c ≢ Abort) × (c ≢ Restart) × (c ≢ Release r)

-- a call that passes its tests lowers a lock only if its session gives it up
act-stands : (st : State) (u : ℕ) (c : Call) → IsQuiescent st.table → first_failing (tests st u c) ≡ None → (s : ℕ) (r : List ℕ) → (u ≡ s → Keeps r c) → IsHeldOn s r st.table (act st u c).state.table
act-stands st u Begin i h s r k = at_or_below-refl (mode_or_nothing (held_mode st.table s r))
act-stands st u (Lock x m) i h s r k = (lock-kept st u x m i h).rises s r
act-stands st u (Convert x m) i h s r k = (convert-kept st u x m i h).rises s r
act-stands st u Poll i h s r k = at_or_below-refl (mode_or_nothing (held_mode st.table s r))
act-stands st u (Release x) i h s r k =
    let p = all-pass (tests st u (Release x)) h in
    released-rises u x st.table i.sound (is-none (request_of u st.table.requests) p.1.0) p.1.1.1.1.0 s r (elim (cases_Bool (eqb u s)) [
      | inr n ↦ inl (eqb-swap u s n)
      | inl e ↦ elim (same_path_tells x r) [
        | inr n ↦ inr n
        | inl q ↦ absurd ((k ((Decides-eqb u s).0 e)).3 (ap Release q.1))
      ]
    ])
act-stands st u Commit i h s r k = elim (cases_Bool (eqb u s)) [
  | inr n ↦ ended-rises u st.table i.sound s r (eqb-swap u s n)
  | inl e ↦ absurd ((k ((Decides-eqb u s).0 e)).0 refl)
]
act-stands st u Abort i h s r k = elim (cases_Bool (eqb u s)) [
  | inr n ↦ ended-rises u st.table i.sound s r (eqb-swap u s n)
  | inl e ↦ absurd ((k ((Decides-eqb u s).0 e)).1 refl)
]
act-stands st u (Try x m) i h s r k = (lock-kept st u x m i (try-locks st u x m h)).rises s r
act-stands st u Withdraw i h s r k = (cancelled-follows u st.table i.sound).rises s r
act-stands st u Restart i h s r k = elim (cases_Bool (eqb u s)) [
  | inr n ↦ ended-rises u st.table i.sound s r (eqb-swap u s n)
  | inl e ↦ absurd ((k ((Decides-eqb u s).0 e)).2 refl)
]

-- a call lowers a lock only if its session gives it up
step-stands : (st : State) (u : ℕ) (c : Call) → IsQuiescent st.table → (s : ℕ) (r : List ℕ) → (u ≡ s → Keeps r c) → IsHeldOn s r st.table (step st u c).state.table
step-stands st u c i s r k = go (first_failing (tests st u c)) refl
  where
    go : (o : Option Why) → first_failing (tests st u c) ≡ o → IsHeldOn s r st.table (outcome_of o st u c).state.table
    go None e = act-stands st u c i e s r k
    go (Some w) e = at_or_below-refl (mode_or_nothing (held_mode st.table s r))

-- a list of calls lowers a lock only if its session gives it up
after-stands : (es : List Entry) (st : State) → IsQuiescent st.table → (s : ℕ) (r : List ℕ) → All (DoesKeepLock s r) es → IsHeldOn s r st.table (state_after st es).table
after-stands [] st i s r k = at_or_below-refl (mode_or_nothing (held_mode st.table s r))
after-stands (e ∷ es) st i s r k =
    at_or_below-trans (mode_or_nothing (held_mode st.table s r)) (mode_or_nothing (held_mode (step st e.session e.call).state.table s r)) (mode_or_nothing (held_mode (state_after (step st e.session e.call).state es).table s r))
    (step-stands st e.session e.call i s r (All-head (DoesKeepLock s r) e es k))
    (after-stands es (step st e.session e.call).state (step-lawful st e.session e.call i) s r (All-tail (DoesKeepLock s r) e es k))

-- a mode at or above one that isn't NL is held
pub held-on : (k : Mode) (o : Option Mode) → is_nothing k ≡ false → at_or_below k (mode_or_nothing o) ≡ true → (l : Mode) × (o ≡ Some l) × (at_or_below k l ≡ true)
held-on k None n h = absurd (true≢false h (some-above k n))
held-on k (Some l) n h = (l, refl, h)

-- a grant stands, as the law states it
pub grant-stands : (front rest : List Entry) → DoesGrantStand front rest
grant-stands front rest s r k e all =
    let i = state-lawful front in
    let up : at_or_below k (mode_or_nothing (held_mode (state_of (front ++ rest)).table s r)) ≡ true
    = ap (λ (o : Option Mode). at_or_below (mode_or_nothing o) (mode_or_nothing (held_mode (state_of (front ++ rest)).table s r))) (sym e)
    ∙ (ap (λ (st : State). at_or_below (mode_or_nothing (held_mode (state_of front).table s r)) (mode_or_nothing (held_mode st.table s r))) (state_after-append front rest (state_of []))
    ∙ after-stands rest (state_of front) i s r all) in
    let l = held-on k (held_mode (state_of (front ++ rest)).table s r) (i.sound.held_under s r k e).1 up in
    (l.0, l.1, order-from k l.0 l.2)
