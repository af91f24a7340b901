-- Whose wait a call has ended: the sessions, other than the caller, whose waiting request it granted, or whose transaction
-- it made a deadlock victim.
use Rattle.std.specs.Prelude.{◌≡◌, ◌≢◌, ◌⊎◌, ℕ, ◌+◌, ◌<◌, ◌≤◌, ◌↔◌, Bool, ◌&&◌, ◌==◌, not, List, [], filter, Contains, None, Some, length, slice_index}
use Rattle.std.specs.List.{range_with_len}
use Rattle.lock_rules.specs.declared.calls.Call.{Call}
use Rattle.lock_rules.specs.declared.calls.Call.TheVariants.{Poll}
use Rattle.lock_rules.specs.declared.calls.Reply.TheVariants.{Clear, Deadlock}
use Rattle.lock_rules.specs.State.{Claim, State, held_mode, request_of, is_waiting}
use Rattle.lock_rules.specs.Step.{step}
use Rattle.lock_rules.specs.Laws.{HasRequest}

-- session u is another than the caller s; it had a waiting request before the call, and has none after it
abbrev pub has_ended : ℕ → State → State → ℕ → Bool
has_ended s before after u = not (u == s) && (is_waiting before u && not (is_waiting after u))

-- the sessions from 1 to n whose wait a call of session s has ended, by number
abbrev pub ended_waits : ℕ → ℕ → State → State → List ℕ
ended_waits n s before after = filter (has_ended s before after) (range_with_len 1 n)

-- what has_ended says, in words
pub record HasEnded (s : ℕ) (before after : State) (u : ℕ) : Type 0 where
  pub another : u ≢ s
  pub waited : HasRequest before u
  pub waits_no_more : request_of u after.table.requests ≡ None

-- the list has exactly the sessions from 1 to n whose wait has ended, and its numbers rise
pub record AreEndedListed (n s : ℕ) (before after : State) : Type 0 where
  pub listed : (u : ℕ) → Contains (ended_waits n s before after) u ↔ ((1 ≤ u) × (u ≤ n) × HasEnded s before after u)
  pub rising : (k : ℕ) → k + 1 < length (ended_waits n s before after) → slice_index (ended_waits n s before after) k < slice_index (ended_waits n s before after) (k + 1)

-- a call after which all requests are as before has ended no wait
abbrev pub DoesNothingEndNone : State → Type 0
DoesNothingEndNone st = (n s : ℕ) (c : Call) → (step st s c).state.table.requests ≡ st.table.requests → ended_waits n s st (step st s c).state ≡ []

-- a session whose wait a call has ended is told so by a poll: Clear, and it holds what it asked for, or Deadlock
abbrev pub AreEndedToldByPoll : State → Type 0
AreEndedToldByPoll st = (s u : ℕ) (c : Call) (q : Claim) → HasEnded s st (step st s c).state u → request_of u st.table.requests ≡ Some q
    → (((step (step st s c).state u Poll).reply ≡ Clear) × (held_mode (step st s c).state.table u q.resource ≡ Some q.mode))
    ⊎ ((step (step st s c).state u Poll).reply ≡ Deadlock)

-- a poll tells every other session but the caller what it would have told it before the call
abbrev pub AreOthersToldAsBefore : State → Type 0
AreOthersToldAsBefore st = (s u : ℕ) (c : Call) → u ≢ s → (HasEnded s st (step st s c).state u → ⊥)
    → (step (step st s c).state u Poll).reply ≡ (step st u Poll).reply
