-- What a restart does, beside an abort, and histories with restarts, worked by hand.
use Rattle.std.specs.Prelude.{◌≡◌, ℕ, ◌↔◌, false, List, [], ◌∷◌, length, Some}
use Rattle.lock_modes.specs.declared.Mode.TheVariants.{S, X}
use Rattle.lock_rules.specs.declared.calls.Call.TheVariants.{Begin, Lock, Poll, Commit, Abort, Restart}
use Rattle.lock_rules.specs.declared.calls.Reply.TheVariants.{Began, Granted, Waiting, Deadlock, Clear, Committed, Aborted, Refused, Restarted}
use Rattle.lock_rules.specs.declared.calls.Transaction.{Transaction}
use Rattle.lock_rules.specs.declared.calls.Why.{Why}
use Rattle.lock_rules.specs.declared.calls.Why.TheVariants.{AlreadyOpen, NoTransaction}
use Rattle.lock_rules.specs.Entries.{Entry}
use Rattle.lock_rules.specs.State.{State, claims_of}
use Rattle.lock_rules.specs.Step.{step}
use Rattle.lock_rules.specs.Laws.{HasTransaction}
use Rattle.lock_rules.specs.Effects.{IsNotRefused, AreClaimsTaken}
use Rattle.lock_rules.specs.Examples.{entry, database}

-- the session's transaction is open with its old number, not doomed, and its claims are taken
pub record IsRestartOf (s : ℕ) (st st' : State) : Type 0 where
  pub own : (x : Transaction) → st.begun s ≡ Some x → st'.begun s ≡ Some (record { number = x.number; doomed = false })
  pub taken : AreClaimsTaken s st st'

-- a restart that isn't refused begins the transaction again, and replies with how many locks it held
abbrev pub DoesRestartTakeAllLocks : State → Type 0
DoesRestartTakeAllLocks st = (s : ℕ) → IsNotRefused st s Restart →
    ((step st s Restart).reply ≡ Restarted (length (claims_of s st.table.held))) × IsRestartOf s st (step st s Restart).state

-- a restart leads to the lock table to which an abort in its place leads
abbrev pub DoesRestartClearAsAbort : State → Type 0
DoesRestartClearAsAbort st = (s : ℕ) → (step st s Restart).state.table ≡ (step st s Abort).state.table

-- a restart is refused only with NoTransaction, and exactly if the session has no transaction
abbrev pub DoesRestartNeedTransaction : State → Type 0
DoesRestartNeedTransaction st = (s : ℕ) (why : Why) → ((step st s Restart).reply ≡ Refused why) ↔ ((why ≡ NoTransaction) × (HasTransaction st s → ⊥))

-- A victim restarts, which grants what waited for its locks. Its transaction goes on with its number, not doomed. Later it closes
-- a cycle with one that began after it, and is spared.
abbrev pub victim_that_restarts : List Entry
victim_that_restarts =
    entry 1 Restart (Refused NoTransaction)
    ∷ entry 1 Begin (Began 1) ∷ entry 2 Begin (Began 2)
    ∷ entry 1 (Lock (database 1) X) (Granted X)
    ∷ entry 2 (Lock (database 2) X) (Granted X)
    ∷ entry 1 (Lock (database 2) S) Waiting
    ∷ entry 2 (Lock (database 1) S) Deadlock
    ∷ entry 2 Restart (Restarted 1)
    ∷ entry 2 Poll Clear ∷ entry 1 Poll Clear
    ∷ entry 2 Begin (Refused AlreadyOpen)
    ∷ entry 1 Commit (Committed 2)
    ∷ entry 1 Begin (Began 3)
    ∷ entry 2 (Lock (database 1) X) (Granted X)
    ∷ entry 1 (Lock (database 2) X) (Granted X)
    ∷ entry 2 (Lock (database 2) S) Waiting
    ∷ entry 1 (Lock (database 1) S) Deadlock
    ∷ entry 2 Poll Waiting
    ∷ entry 1 Restart (Restarted 1)
    ∷ entry 2 Poll Clear
    ∷ entry 2 Commit (Committed 2)
    ∷ []

-- A session that waits restarts: its request goes, and the one behind it is granted. A restart with no locks releases none.
abbrev pub restart_while_waiting : List Entry
restart_while_waiting =
    entry 1 Begin (Began 1) ∷ entry 2 Begin (Began 2) ∷ entry 3 Begin (Began 3)
    ∷ entry 1 (Lock (database 1) S) (Granted S)
    ∷ entry 2 (Lock (database 2) X) (Granted X)
    ∷ entry 2 (Lock (database 1) X) Waiting
    ∷ entry 3 (Lock (database 1) S) Waiting
    ∷ entry 2 Restart (Restarted 1)
    ∷ entry 3 Poll Clear ∷ entry 2 Poll Clear
    ∷ entry 3 (Lock (database 2) X) (Granted X)
    ∷ entry 2 Restart (Restarted 0)
    ∷ entry 2 Abort (Aborted 0)
    ∷ entry 2 Restart (Refused NoTransaction)
    ∷ []
