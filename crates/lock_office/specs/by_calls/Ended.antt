-- Whose waits the passes of a session have ended, and what the sessions that it tells of it can rely on.
use Rattle.std.specs.Prelude.{◌≡◌, ◌⊎◌, ℕ, ◌+◌, ◌<◌, ◌≤◌, None, List, ◌++◌, length, drop, Contains}
use Rattle.lock_rules.specs.declared.calls.Call.TheVariants.{Poll}
use Rattle.lock_rules.specs.declared.calls.Reply.TheVariants.{Clear, Deadlock}
use Rattle.sequential.specs.EndedWaits.{HasEndedAt as HasEndedAtBy}
use Rattle.combining.specs.Woken.{AreToldBy as AreToldByAny}
use Rattle.lock_rules.specs.Entries.{Entry}
use Rattle.lock_rules.specs.State.{request_of}
use Rattle.lock_rules.specs.Step.{step}
use Rattle.lock_rules.specs.Laws.{HasRequest}
use Rattle.lock_rules.specs.Legal.{state_of}
use Rattle.lock_desk.specs.Batches.{ends_wait}
use Rattle.lock_office.specs.by_calls.WakeUps.{MakesNoCall}

-- The entry at one of these places of the history has ended the wait of session u: the entry is another session's, and session u
-- had a waiting request before the entry's call and has none after it.
abbrev pub HasEndedAt : List Entry → List ℕ → ℕ → Type 0
HasEndedAt = HasEndedAtBy ends_wait

-- The list has exactly the sessions from 1 to n whose wait the entry at one of these places of the history has ended, each once.
abbrev pub AreToldBy : ℕ → List Entry → List ℕ → List ℕ → Type 0
AreToldBy = AreToldByAny ends_wait

-- After this history, a poll of session u doesn't reply that the session waits: it replies Clear or Deadlock.
abbrev pub IsToldByPoll : List Entry → ℕ → Type 0
IsToldByPoll history u = (let outcome = step (state_of history) u Poll in (outcome.reply ≡ Clear) ⊎ (outcome.reply ≡ Deadlock))

-- All places of the entries `own`, which follow this front, are among these.
abbrev pub AreEntered : List Entry → List Entry → List ℕ → Type 0
AreEntered front own places = (p : ℕ) → length front ≤ p → p < length front + length own → Contains places p

-- No wake-up is lost, and none is idle, if a session enters these places of the history and its calls tell the sessions of this
-- list.
pub record AreWakesTold (n : ℕ) (history : List Entry) (places list : List ℕ) : Type 0 where
  -- a session that had a waiting request behind some front of the history, made no call in the entries that follow, which are all
  -- at these places, and had no waiting request behind them, is told: also if its request came to wait at one of these places
  pub none_lost : (front own rest : List Entry) (u : ℕ) → history ≡ front ++ own ++ rest → AreEntered front own places → 1 ≤ u → u ≤ n → HasRequest (state_of front) u → MakesNoCall u own
      → request_of u (state_of (front ++ own)).table.requests ≡ None → Contains list u
  -- a session that is told has had its wait ended at one of these places. If it makes no call behind that place, it learns by its
  -- next poll, whatever others call before it, that it waits no more
  pub none_idle : (u : ℕ) → Contains list u → (place : ℕ) × Contains places place × ((later : List Entry) → MakesNoCall u (drop (place + 1) history ++ later) → IsToldByPoll (history ++ later) u)
