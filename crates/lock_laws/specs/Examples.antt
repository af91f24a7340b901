-- Histories worked by hand, each with a walk that leads from a waiting session to a holder that doesn't wait.
use Rattle.std.specs.Prelude.{◌≡◌, ℕ, List, [], ◌∷◌}
use Rattle.lock_modes.specs.declared.Mode.TheVariants.{IS, S, U, X}
use Rattle.lock_rules.specs.declared.calls.Call.TheVariants.{Begin, Lock, Convert, Commit, Abort, Try, Restart}
use Rattle.lock_rules.specs.declared.calls.Reply.TheVariants.{Began, Granted, Waiting, Deadlock, Committed, Aborted, Refused, Restarted}
use Rattle.lock_rules.specs.declared.calls.Why.TheVariants.{WouldWait}
use Rattle.lock_rules.specs.Entries.{Entry}
use Rattle.lock_rules.specs.State.{Claim, State, no_locks}
use Rattle.lock_rules.specs.Examples.{entry, database}
use Rattle.lock_laws.specs.Chains.{WaitsInTheEndFor}
use Rattle.lock_laws.specs.Ends.{AreEnds}

-- Session 2 gets U beside reader 1. Reader 3 comes after it and waits for 2 alone.
abbrev pub reader_behind_update : List Entry
reader_behind_update =
    entry 1 Begin (Began 1) ∷ entry 2 Begin (Began 2) ∷ entry 3 Begin (Began 3)
    ∷ entry 1 (Lock (database 1) S) (Granted S)
    ∷ entry 2 (Lock (database 1) U) (Granted U)
    ∷ entry 3 (Lock (database 1) S) Waiting
    ∷ []

-- Reader 2 waits for writer 1, and session 3 asks for U and waits behind the reader: a walk leads from 3 through 2 to 1.
abbrev pub update_behind_reader : List Entry
update_behind_reader =
    entry 1 Begin (Began 1) ∷ entry 2 Begin (Began 2) ∷ entry 3 Begin (Began 3)
    ∷ entry 1 (Lock (database 1) X) (Granted X)
    ∷ entry 2 (Lock (database 1) S) Waiting
    ∷ entry 3 (Lock (database 1) U) Waiting
    ∷ []

-- Session 2 holds U beside reader 1 and converts it to X, which waits for the reader. Reader 3 waits behind the conversion.
abbrev pub conversion_behind_reader : List Entry
conversion_behind_reader =
    entry 1 Begin (Began 1) ∷ entry 2 Begin (Began 2) ∷ entry 3 Begin (Began 3)
    ∷ entry 1 (Lock (database 1) S) (Granted S)
    ∷ entry 2 (Lock (database 1) U) (Granted U)
    ∷ entry 2 (Convert (database 1) X) Waiting
    ∷ entry 3 (Lock (database 1) S) Waiting
    ∷ []

-- Readers 1 and 2 hold S, and 1 waits to convert it to X. If 2 asks for that too, each waits for the other.
abbrev pub readers_before_a_deadlock : List Entry
readers_before_a_deadlock =
    entry 1 Begin (Began 1) ∷ entry 2 Begin (Began 2)
    ∷ entry 1 (Lock (database 1) S) (Granted S)
    ∷ entry 2 (Lock (database 1) S) (Granted S)
    ∷ entry 1 (Convert (database 1) X) Waiting
    ∷ []

-- Reader 3, whose transaction is the youngest, waits behind the conversion of session 1. If session 2 asks to convert too, 1 and 2
-- wait for each other, and 3 for both.
abbrev pub reader_behind_a_deadlock : List Entry
reader_behind_a_deadlock =
    entry 1 Begin (Began 1) ∷ entry 2 Begin (Began 2) ∷ entry 3 Begin (Began 3)
    ∷ entry 1 (Lock (database 1) S) (Granted S)
    ∷ entry 2 (Lock (database 1) S) (Granted S)
    ∷ entry 1 (Convert (database 1) X) Waiting
    ∷ entry 3 (Lock (database 1) S) Waiting
    ∷ []

-- s waits in the end for u, by a walk through these others
abbrev pub WaitsThrough : State → ℕ → List ℕ → ℕ → Type 0
WaitsThrough st s others u = (w : WaitsInTheEndFor st s u) × (w.others ≡ others)

-- these sessions can end in this order, and then nobody holds a lock or waits
abbrev pub LeavesNothing : List ℕ → State → Type 0
LeavesNothing ss st = (last : State) × AreEnds ss st last × (last.table ≡ no_locks)

-- Writer 2 waits for readers 1 and 3. Session 4 holds nothing: its Try in IS is refused, though IS is compatible with both
-- readers' modes. Reader 1 tries U, which converts its S, and is granted past 2. Reader 3 tries S, which conflicts with U now.
abbrev pub tries_past_a_waiter : List Entry
tries_past_a_waiter =
    entry 1 Begin (Began 1) ∷ entry 2 Begin (Began 2) ∷ entry 3 Begin (Began 3) ∷ entry 4 Begin (Began 4)
    ∷ entry 1 (Lock (database 1) S) (Granted S)
    ∷ entry 3 (Lock (database 1) IS) (Granted IS)
    ∷ entry 2 (Lock (database 1) X) Waiting
    ∷ entry 4 (Try (database 1) IS) (Refused WouldWait)
    ∷ entry 1 (Try (database 1) U) (Granted U)
    ∷ entry 3 (Try (database 1) S) (Refused WouldWait)
    ∷ []

-- the session's request was the first to arrive of those that wait
abbrev pub WaitsFirst : State → ℕ → Type 0
WaitsFirst st s = (q : Claim) × (qs : List Claim) × (st.table.requests ≡ q ∷ qs) × (q.session ≡ s)

-- Session 2 was a victim and restarted; session 1 committed and began again. Session 2 waits for a lock of session 1, which is
-- about to ask for a lock of session 2.
abbrev pub retried_by_restart : List Entry
retried_by_restart =
    entry 1 Begin (Began 1) ∷ entry 2 Begin (Began 2)
    ∷ entry 1 (Lock (database 1) X) (Granted X)
    ∷ entry 2 (Lock (database 2) X) (Granted X)
    ∷ entry 1 (Lock (database 2) S) Waiting
    ∷ entry 2 (Lock (database 1) S) Deadlock
    ∷ entry 2 Restart (Restarted 1)
    ∷ entry 1 Commit (Committed 2)
    ∷ entry 1 Begin (Began 3)
    ∷ entry 2 (Lock (database 2) X) (Granted X)
    ∷ entry 1 (Lock (database 1) X) (Granted X)
    ∷ entry 2 (Lock (database 1) S) Waiting
    ∷ []

-- The same, but session 2 aborted and began anew, so that its transaction is the youngest again.
abbrev pub retried_by_begin : List Entry
retried_by_begin =
    entry 1 Begin (Began 1) ∷ entry 2 Begin (Began 2)
    ∷ entry 1 (Lock (database 1) X) (Granted X)
    ∷ entry 2 (Lock (database 2) X) (Granted X)
    ∷ entry 1 (Lock (database 2) S) Waiting
    ∷ entry 2 (Lock (database 1) S) Deadlock
    ∷ entry 2 Abort (Aborted 1)
    ∷ entry 1 Commit (Committed 2)
    ∷ entry 1 Begin (Began 3) ∷ entry 2 Begin (Began 4)
    ∷ entry 2 (Lock (database 2) X) (Granted X)
    ∷ entry 1 (Lock (database 1) X) (Granted X)
    ∷ entry 2 (Lock (database 1) S) Waiting
    ∷ []
