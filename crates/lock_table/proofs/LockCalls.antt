-- A lock or a try: the tests of its session, then a look-up that changes nothing, then the tests of its resource.
use Rattle.std.proofs.Common.{◌≡◌, ℕ, Bool, List, [], ◌++◌, Option, Some, None, sym, ◌∙◌, ap, subst, Result, IfOk}
use Rattle.lock_modes.specs.declared.Mode.{Mode}
use Rattle.lock_rules.specs.State as rules
use Rattle.lock_rules.specs.declared.calls.Call.{Call}
use Rattle.lock_rules.specs.declared.calls.Reply.{Reply}
use Rattle.lock_rules.specs.declared.calls.Reply.TheVariants.{Refused}
use Rattle.lock_rules.specs.declared.calls.Why.{Why}
use Rattle.lock_rules.specs.Step.{target_of, tests, first_failing, act, step}
use Rattle.lock_rules.specs.Sound.{IsSound}
use Rattle.lock_table.specs.Deadlocks.{Moment, deadlocks_of_request, deadlocks_unless_refused, moments_at}
use Rattle.lock_table.specs.declared.table.LockTable.{LockTable}
use Rattle.lock_table.specs.Changes.{IsWhole, idle_tests, call_tests}
use Rattle.lock_table.specs.Shows.{Shows, DoesAnswer}
use Rattle.lock_table.proofs.Results.{first-none}
use Rattle.lock_table.proofs.Simulation.{refused-step, passed-steps}
use Rattle.lock_table.proofs.DeadlocksOfCalls.{refused-noted, passed-noted}

module _ (d e : LockTable) (same : e ≡ d) (s : ℕ) (r : List ℕ) (m : Mode) (c : Call) (rest : List (Bool × Why)) (all : call_tests e s c ≡ idle_tests e s ++ rest) (w : IsWhole d) (idle : None ≡ first_failing (idle_tests d s)) where
  whole : IsWhole e
  whole = subst IsWhole (sym same) w

  shown : (st : rules.State) → Shows d st → Shows e st
  shown st h = subst (λ (x : LockTable). Shows x st) (sym same) h

  -- the first test that fails is one of the resource
  pub failing : (o : Option Why) → o ≡ first_failing rest → o ≡ first_failing (call_tests e s c)
  failing o f = f ∙ (sym (first-none (idle_tests e s) rest (subst (λ (x : LockTable). None ≡ first_failing (idle_tests x s)) (sym same) idle)) ∙ ap first_failing (sym all))

  module _ (st : rules.State) (i : IsSound st.table) (h : Shows d st) where
    -- a call that is refused then is answered, and notes no deadlock
    pub refused-then : (why : Why) → Some why ≡ first_failing rest → DoesAnswer (step st s c) e (Refused why)
    refused-then why f = refused-step e st s c why whole i (shown st h) (failing (Some why) f)

    pub refused-then_noted : {N : Type 0} (noted : List Moment → N → N → Type 0) → ((a : N) → noted [] a a) → (why : Why) → Some why ≡ first_failing rest → (served : ℕ) (log : N) → noted (moments_at served s (deadlocks_unless_refused (first_failing (tests st s c)) st s r m)) log log
    refused-then_noted noted none why f served log = refused-noted noted none e st s r m why served log c whole i (shown st h) (failing (Some why) f)

    module _ {E : Type 0} (result : Result Reply E) (passed : None ≡ first_failing rest) where
      -- a call whose tests pass is answered by its effect, and notes the deadlocks of its request
      pub passed-then : (now : LockTable) → (Shows e st → IfOk result (DoesAnswer (act st s c) now)) → IfOk result (DoesAnswer (step st s c) now)
      passed-then now acted = passed-steps e now st s c result whole i (shown st h) (failing None passed) (acted (shown st h))

      pub passed-then_noted : {N : Type 0} (noted : List Moment → N → N → Type 0) (served : ℕ) (a b : N) → (Shows e st → IfOk result (λ (_ : Reply). noted (moments_at served s (deadlocks_of_request st s r (target_of (rules.held_mode st.table s r) m))) a b))
          → IfOk result (λ (_ : Reply). noted (moments_at served s (deadlocks_unless_refused (first_failing (tests st s c)) st s r m)) a b)
      passed-then_noted noted served a b h2 = passed-noted noted e st s r m served a b c result whole i (shown st h) (failing None passed) (h2 (shown st h))
