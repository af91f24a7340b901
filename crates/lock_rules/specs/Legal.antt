-- Legal histories, which are those that the sequential lock manager produces, and the state that a history leads to.
use Rattle.std.specs.Prelude.{◌≡◌, ℕ, ◌+◌, if◌then◌else◌, ◌==◌, List, [], ◌∷◌, map}
use Rattle.lock_rules.specs.declared.calls.Call.{Call}
use Rattle.lock_rules.specs.declared.calls.Reply.{Reply}
use Rattle.lock_rules.specs.Entries.{Entry}
use Rattle.lock_rules.specs.State.{State, empty}
use Rattle.lock_rules.specs.Step.{step}

-- the state after the calls of these entries, starting from st
abbrev pub state_after : State → List Entry → State
state_after st [] = st
state_after st (e ∷ es) = state_after (step st e.session e.call).state es

-- the state after the calls of a history, starting from the empty state
abbrev pub state_of : List Entry → State
state_of es = state_after empty es

-- starting from st, each reply is the one that the sequential lock manager gives
abbrev pub IsLegalFrom : State → List Entry → Type 0
IsLegalFrom st [] = Unit {0}
IsLegalFrom st (e ∷ es) = (e.reply ≡ (step st e.session e.call).reply) × IsLegalFrom (step st e.session e.call).state es

-- the history is legal: starting from the empty state, each reply is the one that the sequential lock manager gives
abbrev pub IsLegal : List Entry → Type 0
IsLegal es = IsLegalFrom empty es
