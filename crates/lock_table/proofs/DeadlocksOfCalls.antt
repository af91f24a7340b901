-- The deadlocks that a call makes, as the lock table finds them.
use Rattle.std.proofs.Common.{◌≡◌, ℕ, ◌+◌, ◌<◌, Bool, true, false, cond, inl, inr, List, [], ◌∷◌, length, length-append, Option, Some, None, refl, sym, ◌∙◌, ap, arith, subst, Result, IfOk}
use Rattle.std.proofs.lemmas.Bool.{cases_Bool}
use Rattle.lock_modes.specs.declared.Mode.{Mode}
use Rattle.lock_rules.specs.State as rules
use Rattle.lock_rules.specs.declared.calls.Call.{Call}
use Rattle.lock_rules.specs.declared.calls.Reply.{Reply}
use Rattle.lock_rules.specs.declared.calls.Why.{Why}
use Rattle.lock_rules.specs.Queue.{is_granted_at_once, with_request}
use Rattle.lock_rules.specs.Step.{target_of, is_held, tests, first_failing}
use Rattle.lock_rules.specs.Sound.{IsSound}
use Rattle.lock_table.specs.Deadlocks.{Moment, deadlocked_states, deadlocks_of_request, deadlocks_unless_refused, moments_at}
use Rattle.lock_table.specs.declared.table.LockTable.{LockTable}
use Rattle.lock_table.specs.Changes.{mode_held, call_tests, IsWhole, HasAsked}
use Rattle.lock_table.specs.Shows.{Shows}
use Rattle.lock_table.proofs.AfterStep.{first_state}
use Rattle.lock_table.proofs.Simulation.{mode-shown, tests-shown, same-target, granted-is}
use Rattle.lock_table.proofs.DeadlockRounds.{deadlocked-enough}

-- a request
module _ (d e : LockTable) (st : rules.State) (s : ℕ) (r : List ℕ) (asks m : Mode) (h : Shows d st) (target : m ≡ target_of (mode_held d s r) asks) where
  -- its deadlocks, by whether the session's lock covers the target, and whether it is granted at once
  abbrev found : Bool → Bool → List rules.State
  found held granted = cond held [] (cond granted [] (deadlocked_states (length st.table.requests + 2) s (first_state st s r m false)))

  -- so its deadlocks are these
  these : (held granted : Bool) → is_held (mode_held d s r) m ≡ held → is_granted_at_once st.table s r m ≡ granted → deadlocks_of_request st s r (target_of (rules.held_mode st.table s r) asks) ≡ found held granted
  these held granted k g =
      let f = ap (λ (o : Option Mode). is_held o m) (sym (mode-shown d st s r h)) ∙ k in
      ap (deadlocks_of_request st s r) (same-target d st s r asks m h target) ∙ (λ i. found (f i) (g i))

  -- a request that is granted, or whose target is held already, makes none
  pub none-if-granted : (is_held (mode_held d s r) m ≡ false → HasAsked s r m true d e) → deadlocks_of_request st s r (target_of (rules.held_mode st.table s r) asks) ≡ []
  none-if-granted more = elim (cases_Bool (is_held (mode_held d s r) m)) [
    | inl y ↦ these true (is_granted_at_once st.table s r m) y refl
    | inr n ↦ these false true n (granted-is d e st s r m h true (more n))
  ]

  -- a request that waits makes those that are found once it waits
  pub those-if-waits : is_held (mode_held d s r) m ≡ false → HasAsked s r m false d e → IsSound (with_request s r m st.table) → (n : ℕ) → length (with_request s r m st.table).requests < n
      → deadlocks_of_request st s r (target_of (rules.held_mode st.table s r) asks) ≡ deadlocked_states n s (first_state st s r m false)
  those-if-waits n k sound rounds few =
      let len = length-append st.table.requests (record { session = s; resource = r; mode = m } ∷ []) in
      these false false n (granted-is d e st s r m h false k) ∙ deadlocked-enough (length st.table.requests + 2) rounds s (first_state st s r m false) sound (omega (arith, len)) few

-- a call, by its tests

pub none-if-refused : (o : Option Why) (why : Why) (st : rules.State) (s : ℕ) (r : List ℕ) (m : Mode) → Some why ≡ o → deadlocks_unless_refused o st s r m ≡ []
none-if-refused o why st s r m e = ap (λ (x : Option Why). deadlocks_unless_refused x st s r m) (sym e)

pub those-if-passed : (o : Option Why) (st : rules.State) (s : ℕ) (r : List ℕ) (m : Mode) → None ≡ o → deadlocks_unless_refused o st s r m ≡ deadlocks_of_request st s r (target_of (rules.held_mode st.table s r) m)
those-if-passed o st s r m e = ap (λ (x : Option Why). deadlocks_unless_refused x st s r m) (sym e)

-- a call that is refused notes none
pub refused-noted : {N : Type 0} (noted : List Moment → N → N → Type 0) → ((a : N) → noted [] a a) → (d : LockTable) (st : rules.State) (s : ℕ) (r : List ℕ) (m : Mode) (why : Why) (served : ℕ) (log : N) (c : Call) → IsWhole d → IsSound st.table → Shows d st → Some why ≡ first_failing (call_tests d s c)
    → noted (moments_at served s (deadlocks_unless_refused (first_failing (tests st s c)) st s r m)) log log
refused-noted noted none d st s r m why served log c w i h e =
    subst (λ (sts : List rules.State). noted (moments_at served s sts) log log) (sym (none-if-refused (first_failing (tests st s c)) why st s r m (e ∙ ap first_failing (tests-shown d st s w i h c)))) (none log)

-- a call whose tests pass notes those of its request
pub passed-noted : {E N : Type 0} (noted : List Moment → N → N → Type 0) (d : LockTable) (st : rules.State) (s : ℕ) (r : List ℕ) (m : Mode) (served : ℕ) (a b : N) (c : Call) (result : Result Reply E) → IsWhole d → IsSound st.table → Shows d st → None ≡ first_failing (call_tests d s c)
    → IfOk result (λ (_ : Reply). noted (moments_at served s (deadlocks_of_request st s r (target_of (rules.held_mode st.table s r) m))) a b)
    → IfOk result (λ (_ : Reply). noted (moments_at served s (deadlocks_unless_refused (first_failing (tests st s c)) st s r m)) a b)
passed-noted noted d st s r m served a b c result w i h e h2 =
    subst (λ (sts : List rules.State). IfOk result (λ (_ : Reply). noted (moments_at served s sts) a b)) (sym (those-if-passed (first_failing (tests st s c)) st s r m (e ∙ ap first_failing (tests-shown d st s w i h c)))) h2
