-- The open transactions of all sessions at one moment.
use Rattle.std.specs.Prelude.{ℕ, List, [], ◌∷◌, Option, Some, None}
use Rattle.std.specs.List.{flat_map, range_with_len}
use Rattle.lock_rules.specs.declared.calls.Transaction.{Transaction}
use Rattle.lock_rules.specs.State.{State}

-- the session with its open transaction in a list, the empty list if it has none
abbrev pub open_of : ℕ → Option Transaction → List (ℕ × Transaction)
open_of s None = []
open_of s (Some x) = (s, x) ∷ []

-- the open transactions of the sessions 1 to n, each with its session, by session number
abbrev pub opens_of : ℕ → State → List (ℕ × Transaction)
opens_of n st = flat_map (λ s. open_of s (st.begun s)) (range_with_len 1 n)
