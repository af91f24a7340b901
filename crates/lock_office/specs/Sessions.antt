-- What contracts see of the lock office and its sessions: that of any office, with programs of a book as the object.
use Rattle.std.specs.Prelude.{ℕ, List}
use Rattle.lock_rules.specs.Entries.{Entry}
use Rattle.lock_programs.specs.declared.program.Program.{Program}
use Rattle.lock_programs.specs.declared.answer.ProgramAnswer.{ProgramAnswer}
use Rattle.lock_programs.specs.Calls.{calls_of}
use Rattle.lock_desk.specs.Batches.{makes_room}
use Rattle.programs.specs.Form.{first_goes_first}
use Rattle.combining.specs.Sessions as any
pub use Rattle.combining.specs.Sessions.{IsSessionOf, IsIdle, HasNothingPending, IsPendingServed}
use Rattle.combining.specs.Looks as looks
use Rattle.publication.specs.Views.{BoardView}
use Rattle.combining.specs.declared.office.Answer.{Answer as AnswerOf}
use Rattle.combining.specs.declared.office.perform.TryOutcome.{TryOutcome as TryOutcomeOf}
use Rattle.lock_office.specs.ProgramBoards.{Load, TicketView, program_object, flat_history}

abbrev pub Answer : Type 0
Answer = AnswerOf ProgramAnswer

abbrev pub TryOutcome : Type 0
TryOutcome = TryOutcomeOf ProgramAnswer

abbrev pub IsPassed : TicketView → TicketView → ℕ → Type 0
IsPassed = any.IsPassed program_object

abbrev pub IsCollected : TicketView → TicketView → ℕ → ProgramAnswer → Type 0
IsCollected = any.IsCollected program_object

-- A program goes first whose first call makes room.
abbrev pub IsPerformed : TicketView → TicketView → Program → ℕ → ProgramAnswer → ℕ → Type 0
IsPerformed before after program = any.IsPerformed program_object (first_goes_first makes_room (calls_of program)) before after program

abbrev pub IsRefused : TicketView → TicketView → Type 0
IsRefused = any.IsRefused program_object

-- What is written down of a history are the entries of its calls.
abbrev pub HasTakenPiece : TicketView → TicketView → ℕ → List Entry → Type 0
HasTakenPiece = any.HasTakenPiece program_object flat_history

abbrev pub IsLooking : BoardView → TicketView → Load → Type 0
IsLooking = looks.IsLooking program_object

abbrev pub HasBegunToLook : TicketView → TicketView → Type 0
HasBegunToLook = looks.HasBegunToLook program_object

abbrev pub HasLooked : TicketView → TicketView → Type 0
HasLooked = looks.HasLooked program_object
