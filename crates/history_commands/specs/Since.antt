-- The place since when a session waits is that of the request with which it waits.
use Rattle.std.specs.Prelude.{◌≡◌, ℕ, ◌<◌, ◌≤◌, true, List, length, take, slice_get, Option, Some, None, Contains}
use Rattle.lock_rules.specs.Entries.{Entry}
use Rattle.lock_rules.specs.State.{Claim, request_of}
use Rattle.lock_rules.specs.Legal.{state_of}
use Rattle.lock_report.specs.declared.snapshot.WaitLine.{WaitLine}
use Rattle.history_commands.specs.Waits.{begins_wait, waits_told}

-- the session's request, as it is after these entries
abbrev pub request_after : ℕ → List Entry → Option Claim
request_after s front = request_of s (state_of front).table.requests

-- session s waits with the request q since the place: there its call for a lock was answered Waiting; in front of it the session had
-- no request, and in each state behind it, up to the end of the history, it has this one
pub record IsWaitingSince (s : ℕ) (q : Claim) (history : List Entry) (place : ℕ) : Type 0 where
  pub call : Entry
  pub there : slice_get history place ≡ Some call
  pub begins : begins_wait s call ≡ true
  pub free : request_after s (take place history) ≡ None
  pub waits : (k : ℕ) → place < k → k ≤ length history → request_after s (take k history) ≡ Some q

-- each wait that is told with a place is of a session that waits since there, with the request that it has at the end
abbrev pub ArePlacesTold : ℕ → List Entry → Type 0
ArePlacesTold n history = (w : WaitLine) (place : ℕ) → Contains (waits_told n (state_of history) history) w → w.since ≡ Some place
    → (q : Claim) × (request_after w.wait.session history ≡ Some q) × IsWaitingSince w.wait.session q history place
