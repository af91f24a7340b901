-- How many calls of the history a session knows.
use Rattle.std.specs.Prelude.{ℕ, ◌-◌, ◌^◌, min, List, length}
use Rattle.lock_office.specs.ProgramBoards.{ProgramEntry, flat_history}

-- The number of the calls that the programs of a history made; 2^64 - 1 if there are more.
abbrev pub number_of_calls : List ProgramEntry → ℕ
number_of_calls history = min (length (flat_history history)) (2 ^ 64 - 1)
