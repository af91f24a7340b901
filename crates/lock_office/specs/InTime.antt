-- The order in which programs stand, and the order of time.
use Rattle.std.specs.Prelude.{◌≡◌, ℕ, ◌+◌, ◌≤◌, Option, List, ◌∷◌, ◌++◌, length, Contains}
use Rattle.sequential.specs.Histories.{calls_of}
use Rattle.publication.specs.Collected.{HasCollected}
use Rattle.publication.specs.Runs.{calls_made}
use Rattle.lock_programs.specs.Answers.{replies_of}
use Rattle.lock_office.specs.ProgramBoards.{AnsweredProgram, Pending, BoardState, history_of}

-- All calls that the one program made stand before all that the other made.
abbrev pub StandsBefore : AnsweredProgram → AnsweredProgram → Type 0
StandsBefore x y = x.reply.first + length (replies_of x.call x.reply) ≤ y.reply.first

-- A program whose answer any session had collected in state s stands wholly before each program of the history of state t that a
-- session published, or performed, after state s, whether or not the answer to that one is collected.
abbrev pub DoProgramsRespectTime : BoardState → BoardState → Type 0
DoProgramsRespectTime s t = (i j : ℕ) (theirs mine later : List AnsweredProgram) (their_pending my_pending later_pending : Option Pending)
    → HasCollected s i theirs their_pending → HasCollected s j mine my_pending → HasCollected t j later later_pending
    → (x y : AnsweredProgram) (before after : List AnsweredProgram) → Contains theirs x → calls_of j (history_of t) ≡ before ++ y ∷ after
    → calls_made mine my_pending ≤ length before → StandsBefore x y
