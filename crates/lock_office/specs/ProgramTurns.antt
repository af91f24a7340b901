-- Sessions of the lock office that make whole programs, turn by turn.
use Rattle.std.specs.Prelude.{◌≡◌, ℕ, ◌<◌, Some, length}
use Rattle.lock_programs.specs.declared.program.Program.{Program}
use Rattle.lock_programs.specs.declared.answer.ProgramAnswer.{ProgramAnswer}
use Rattle.lock_programs.specs.Calls.{calls_of}
use Rattle.publication.specs.Views.{asks}
use Rattle.combining.specs.Calls as any
use Rattle.lock_office.specs.ProgramBoards.{TicketView, program_object}

abbrev pub IsCalled : TicketView → TicketView → Program → ℕ → ProgramAnswer → Type 0
IsCalled = any.IsCalled program_object

abbrev pub IsAnswered : TicketView → TicketView → ℕ → ProgramAnswer → Type 0
IsAnswered = any.IsAnswered program_object

abbrev pub HasStarvedCalling : TicketView → TicketView → Program → Type 0
HasStarvedCalling = any.HasStarvedCalling program_object

-- If a program is pending, it makes one call.
abbrev pub IsPendingSingle : TicketView → Type 0
IsPendingSingle session = (program : Program) (floor : ℕ) → session.pending ≡ Some (asks program floor) → length (calls_of program) ≡ 1

-- A program of several calls is pending.
abbrev pub HasSeveralPending : TicketView → Type 0
HasSeveralPending session = (program : Program) × (floor : ℕ) × (session.pending ≡ Some (asks program floor)) × (1 < length (calls_of program))
