-- The board of the lock table whose published calls are programs: the board of any sequential object, with programs of a book as
-- the object.
use Rattle.std.specs.Prelude.{◌≡◌, ℕ, List}
use Rattle.atomic_table.specs.Seated.{TableId}
use Rattle.sequential.specs.declared.entry.Entry.{Entry as EntryOf}
use Rattle.sequential.specs.declared.object.Sequential.{Ghosts}
use Rattle.sequential.specs.Histories.{Answered as AnsweredOf}
use Rattle.programs.specs.Views.{ProgramsView as ProgramsViewOf}
use Rattle.programs.specs.Flat.{flat, flat_calls, IsLegal as IsLegalOf}
use Rattle.programs.specs.Answers.{AnswersAgree}
use Rattle.lock_rules.specs.Entries.{Entry, Answered}
use Rattle.lock_rules.specs.Legal.{IsLegal as IsLegalByCalls}
use Rattle.lock_programs.specs.declared.program.Program.{Program}
use Rattle.lock_programs.specs.declared.answer.ProgramAnswer.{ProgramAnswer}
use Rattle.lock_programs.specs.Answers.{program_form}
use Rattle.lock_programs.specs.Nothing.{no_calls, no_replies}
use Rattle.lock_desk.specs.BookView.{BookView}
use Rattle.publication.specs.Views.{Pending as PendingOf, TicketView as TicketViewOf}
use Rattle.publication.specs.Rule.{BoardState as BoardStateOf, IsHome as IsHomeOf}
use Rattle.publication.specs.List.{IsRuled as IsRuledOf}
use Rattle.publication.specs.Runs.{IsRun as IsRunOf}
use Rattle.publication.specs.Boards.{new_tickets as new_tickets_of}
use Rattle.publication.specs.BoardHistory.{history_of as history_of_any}
use Rattle.publication.specs.declared.slot.Load.{Load as LoadOf}

-- A book whose calls are programs.
abbrev pub ProgramsView : Type 0
ProgramsView = ProgramsViewOf BookView Program ProgramAnswer

-- A session's program with its answer, in a history; and with its place there, among the answers of one session.
abbrev pub ProgramEntry : Type 0
ProgramEntry = EntryOf Program ProgramAnswer

abbrev pub AnsweredProgram : Type 0
AnsweredProgram = AnsweredOf Program ProgramAnswer

-- The programs of a history are ones that the lock manager can have served, with these answers.
abbrev pub IsLegal : List ProgramEntry → Type 0
IsLegal = IsLegalOf program_form IsLegalByCalls

-- What programs of a book say of themselves as a sequential object.
abbrev pub program_object : Ghosts ProgramsView Program ProgramAnswer
program_object = record {
  sessions = λ programs. programs.object.sessions;
  history = λ programs. programs.history;
  cut = λ programs. programs.object.cut;
  bound = λ programs. record { lines = programs.object.bound; notes = programs.object.deadlocks };
  is_legal = IsLegal;
  agree = AnswersAgree program_form (λ _ reply other. reply ≡ other);
  any_call = no_calls;
  any_reply = no_replies;
}

-- The calls that the programs of a history made, laid end to end: a history of the lock manager.
abbrev pub flat_history : List ProgramEntry → List Entry
flat_history = flat program_form

-- The calls that a session made by programs with these answers, in order, each with its place in that history.
abbrev pub calls_answered : List AnsweredProgram → List Answered
calls_answered = flat_calls program_form

-- The types of the board, and what its contracts say, for programs of a book.

abbrev pub Pending : Type 0
Pending = PendingOf Program

abbrev pub TicketView : Type 0
TicketView = TicketViewOf Program ProgramAnswer

abbrev pub Load : Type 0
Load = LoadOf ProgramsView Program ProgramAnswer

abbrev pub BoardState : Type 0
BoardState = BoardStateOf ProgramsView Program ProgramAnswer

abbrev pub IsHome : List ProgramEntry → ℕ → Load → Type 0
IsHome = IsHomeOf program_object

abbrev pub IsRuled : BoardState → Type 0
IsRuled = IsRuledOf program_object

abbrev pub IsRun : BoardState → BoardState → Type 0
IsRun = IsRunOf program_object

abbrev pub history_of : BoardState → List ProgramEntry
history_of = history_of_any program_object

abbrev pub new_tickets : TableId → ℕ → ℕ → List TicketView
new_tickets = new_tickets_of
