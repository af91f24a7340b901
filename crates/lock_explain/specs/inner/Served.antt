-- A call that was served after a history.
use Rattle.std.specs.Prelude.{◌≡◌, ℕ, List, All}
use Rattle.lock_rules.specs.Entries.{Entry}
use Rattle.lock_rules.specs.State.{State}
use Rattle.lock_rules.specs.Legal.{state_of}
use Rattle.lock_rules.specs.Step.{step}
use Rattle.lock_rules.specs.Ended.{ended_waits}
use Rattle.sequential.specs.Histories.{IsEntryWithin}

-- after the history, whose entries are of sessions 1 to n, the entry of one of them was served and led to this state
pub record IsServed (n : ℕ) (history : List Entry) (e : Entry) (after : State) : Type 0 where
  pub entries : All (IsEntryWithin n) history
  pub session : IsEntryWithin n e
  pub reply : e.reply ≡ (step (state_of history) e.session e.call).reply
  pub state : after ≡ (step (state_of history) e.session e.call).state

-- after the history, of sessions 1 to n, these are the sessions whose wait the call of the entry ended
abbrev pub AreEnded : ℕ → List Entry → Entry → List ℕ → Type 0
AreEnded n history e ended = ended ≡ ended_waits n e.session (state_of history) (step (state_of history) e.session e.call).state
