-- The gauges of a state as a book tells them.
use Rattle.std.specs.Prelude.{ℕ, zero, suc, ◌+◌, max, Option, Some, None, length}
use Rattle.lock_rules.specs.State.{Claim, Table, State, is_open, request_of, claims_of}
use Rattle.lock_rules.specs.Queue.{queue}
use Rattle.lock_rules.specs.Counts.{one_if}
use Rattle.lock_desk.specs.declared.gauges.Gauges.{Gauges}

-- how many of the sessions 1 to n have an open transaction
abbrev pub open_up_to : State → ℕ → ℕ
open_up_to st zero = 0
open_up_to st (suc n) = open_up_to st n + one_if (is_open st (suc n))

-- how many locks the sessions 1 to n hold
abbrev pub locks_up_to : Table → ℕ → ℕ
locks_up_to t zero = 0
locks_up_to t (suc n) = locks_up_to t n + length (claims_of (suc n) t.held)

-- how many requests wait for the resource of this request, with itself; 0 for none
abbrev pub queue_length : Table → Option Claim → ℕ
queue_length t None = 0
queue_length t (Some q) = length (queue t q.resource)

-- the length of the longest of the queues in which the sessions 1 to n wait
abbrev pub longest_up_to : Table → ℕ → ℕ
longest_up_to t zero = 0
longest_up_to t (suc n) = max (longest_up_to t n) (queue_length t (request_of (suc n) t.requests))

-- the gauges of a state of the sessions 1 to n
abbrev pub gauges_of : ℕ → State → Gauges
gauges_of n st = record {
  transactions = open_up_to st n;
  locks = locks_up_to st.table n;
  waiting = length st.table.requests;
  longest_queue = longest_up_to st.table n;
}
