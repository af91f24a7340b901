-- The roots of a jam: the sessions that block others and don't wait themselves.
use Rattle.std.specs.Prelude.{ℕ, nat_lt, Bool, not, ◌&&◌, if◌then◌else◌, List, [], ◌∷◌, length, filter, Option, Some, None}
use Rattle.std.specs.List.{flat_map, range_with_len}
use Rattle.lock_rules.specs.declared.calls.Transaction.{Transaction}
use Rattle.lock_rules.specs.State.{State, is_waiting}
use Rattle.lock_rules.specs.Waits.{waits_for, reaches}
use Rattle.lock_rules.specs.Listing.{listing_of}
use Rattle.lock_report.specs.declared.snapshot.Root.{Root}
use Rattle.lock_report.specs.Jam.{jammed_behind}
use Rattle.lock_report.specs.Jam.{granted_by_abort as granted_on_queues}

-- the sessions, of 1 to n, that wait for session s, directly or through others: a walk of the waits-for graph leads from them to s
abbrev pub blocked_by : ℕ → State → ℕ → List ℕ
blocked_by n st s = filter (λ u. reaches st.table u s) (range_with_len 1 n)

-- the sessions whose waiting requests an abort of session s would grant, by the listing: on each resource that s holds and others wait for,
-- the front of the queue that fits once the lock of s is gone
abbrev pub granted_by_abort : State → ℕ → List ℕ
granted_by_abort st s = granted_on_queues s (jammed_behind None (listing_of st))

-- the sessions, of 1 to n, that wait for session s directly
abbrev pub waiters_of : ℕ → State → ℕ → List ℕ
waiters_of n st s = filter (λ u. waits_for st.table u s) (range_with_len 1 n)

-- session s is a root: it doesn't wait, and one of the sessions 1 to n waits for it directly
abbrev pub is_root : ℕ → State → ℕ → Bool
is_root n st s = not (is_waiting st s) && nat_lt 0 (length (waiters_of n st s))

-- the root with its open transaction, in a list, the empty list if the session is no root or has no transaction
abbrev pub root_of : ℕ → State → ℕ → Option Transaction → List Root
root_of n st s None = []
root_of n st s (Some x) =
    if is_root n st s
    then record {
      begun = record { session = s; transaction = x };
      blocks = length (blocked_by n st s);
      grants = length (granted_by_abort st s);
    } ∷ []
    else []

-- the roots among the sessions 1 to n, by session number
abbrev pub roots_of : ℕ → State → List Root
roots_of n st = flat_map (λ s. root_of n st s (st.begun s)) (range_with_len 1 n)
