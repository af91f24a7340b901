-- What the lock office leaves when it is closed, and what holds of its history.
use Rattle.std.specs.Prelude.{◌≡◌, ℕ, List, Some, slice_get, All}
use Rattle.sequential.specs.Histories.{calls_of}
use Rattle.publication.specs.Views.{BoardView}
use Rattle.combining.specs.Closed.{IsClosed as IsClosedOf, IsOneHistory as IsOneHistoryOfAny}
use Rattle.programs.specs.Laws.{IsPlaced, GoesOnBehind, StopsAtCause, IsCut}
use Rattle.lock_programs.specs.Answers.{program_form}
use Rattle.lock_office.specs.by_calls.OneHistory.{IsOneHistoryOf}
use Rattle.lock_office.specs.ProgramBoards.{ProgramsView, ProgramEntry, TicketView, program_object, flat_history, calls_answered}

-- The programs of a book of an office that was closed with these sessions.
abbrev pub IsClosed : BoardView → List TicketView → ProgramsView → Type 0
IsClosed = IsClosedOf program_object

-- The answer tells what became of the calls of the program, which is one of this history.
pub record IsToldBy (history : List ProgramEntry) (program : ProgramEntry) : Type 0 where
  -- the calls that were served stand side by side in the history of calls, from the place that the answer tells, with the replies
  -- that it tells
  pub placed : IsPlaced program_form history program
  -- the program goes on behind each reply but the last
  pub goes_on : GoesOnBehind program_form program
  -- if calls are left, it stopped at its last reply, or the answer says that memory was refused to the next call
  pub stops : StopsAtCause program_form program
  -- if the answer says that memory was refused, calls are left
  pub cut : IsCut program_form program

-- One sequential history of these sessions, in which each session finds its programs, and each call of these.
pub record IsOneHistory (sessions : List TicketView) (history : List ProgramEntry) : Type 0 where
  -- each session's programs are in the history, each once, in its order, and each answer is determined by the programs before it
  pub programs : IsOneHistoryOfAny program_object sessions history
  -- the calls of the programs, laid end to end, are one history of the lock manager, in which each session finds its calls
  pub calls : IsOneHistoryOf (λ session. session.number) (λ session. calls_answered session.collected) sessions (flat_history history)
  -- a session's calls there are those of the programs that it collected answers to, in order, up to where each stopped
  pub made : All (λ session. calls_of session.number (flat_history history) ≡ calls_answered session.collected) sessions
  pub told : (place : ℕ) (program : ProgramEntry) → slice_get history place ≡ Some program → IsToldBy history program
