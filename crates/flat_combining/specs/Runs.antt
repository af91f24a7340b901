-- The runs of a machine: the states that histories lead to, and the replies in them.
use Rattle.std.specs.Prelude.{◌≡◌, ℕ, List, [], ◌∷◌}
use Rattle.sequential.specs.declared.entry.Entry.{Entry}
use Rattle.flat_combining.specs.declared.machine.Machine.{Ghosts}

module _ {S C R : Type 0} (machine : Ghosts S C R) where
  -- The state that the calls of these entries lead to from this one.
  abbrev pub state_from : S → List (Entry C R) → S
  state_from state [] = state
  state_from state (e ∷ es) = state_from (machine.after state e.session e.call) es

  -- The state behind a history.
  abbrev pub state_behind : List (Entry C R) → S
  state_behind = state_from machine.initial

  -- The reply to a call of a session behind a history.
  abbrev pub reply_behind : List (Entry C R) → ℕ → C → R
  reply_behind history session call = machine.reply (state_behind history) session call

-- The first call of the history is this one.
abbrev pub BeginsWith : {C R : Type 0} → C → List (Entry C R) → Type 0
BeginsWith call [] = ⊥
BeginsWith call (e ∷ es) = e.call ≡ call
