-- A run whose history is taken and written in pieces; cited by private contracts only.
use Rattle.std.specs.Prelude.{◌≡◌, ◌⊎◌, ℕ, ◌+◌, ◌≤◌, List, [], length, take, drop, Option, All}
use Rattle.std.specs.Io.KnownBytes.{Appends, Keeps}
use Rattle.lock_rules.specs.Entries.{Entry}
use Rattle.lock_rules.specs.Legal.{IsLegal}
use Rattle.lock_desk.specs.BookView.{BookView}
use Rattle.publication.specs.Views.{BoardView}
use Rattle.lock_office.specs.ProgramBoards.{TicketView, ProgramsView, flat_history, new_tickets}
use Rattle.publication.specs.Boards.{IsEachOnce, new_ticket}
use Rattle.publication.specs.declared.closing.CloseFault.{CloseFault}
use Rattle.publication.specs.declared.closing.CloseFault.TheVariants as close
use Rattle.lock_office.specs.Sessions.{HasNothingPending}
use Rattle.lock_office.specs.Closed.{IsClosed}
use Rattle.lock_trace.specs.Histories.{text_of_history, text_of_piece}
use Rattle.replay_commands.specs.declared.tool_fault.ToolFault.{ToolFault}
use Rattle.replay_commands.specs.declared.tool_fault.ToolFault.TheVariants as tool
use Rattle.replay_commands.specs.Pieces.{IsFaultOfPiece}
use Rattle.run_commands.specs.Runs.{HasWrittenFront, HasWrittenPart}
use Rattle.run_commands.specs.Workers.{IsNewSession}

-- a session without what taking the history changes of it: the front of the history that it knows, and its pieces
abbrev pub bare : TicketView → TicketView
bare session = record session { front = []; pieces = [] }

-- the history that begins with this front is legal, and the output, which held `old` before, grew by the text of its first
-- `next` entries
pub record IsWrittenUpTo (next : ℕ) (front : List Entry) (old new : Option (List ℕ)) : Type 0 where
  pub legal : IsLegal front
  pub within : next ≤ length front
  pub written : Appends old new (text_of_history (take next front))

-- the fault of such a run, and what was written before it: the whole text of a legal history, or its beginning if a device failed
abbrev pub IsFaultOfStream : Option (List ℕ) → Option (List ℕ) → ToolFault → Type 0
IsFaultOfStream old new (tool.Trace fault) = ⊥
IsFaultOfStream old new tool.NoMemory = HasWrittenFront old new
IsFaultOfStream old new tool.Device = HasWrittenPart old new
IsFaultOfStream old new tool.GateShut = HasWrittenFront old new
IsFaultOfStream old new tool.TurnLimit = HasWrittenFront old new

-- an office that was opened for k sessions that perform rows, and for one that takes the history
pub record IsOpenedFor (k : ℕ) (office : BoardView) (workers : List TicketView) (taker : TicketView) : Type 0 where
  pub sessions : office.sessions ≡ k + 1
  pub workers_new : All (IsNewSession office) workers
  pub taker_new : IsNewSession office taker
  pub workers_are : workers ≡ new_tickets office.id (k + 1) k
  pub taker_is : taker ≡ new_ticket office.id (k + 1) (k + 1)

-- neither fault of a close is possible for the office and these sessions
abbrev pub IsNeverRefused : BoardView → List TicketView → Type 0
IsNeverRefused office all = (fault : CloseFault) → (fault ≡ close.Missing → ¬ IsEachOnce office.sessions all)
    → (fault ≡ close.Unsettled → IsEachOnce office.sessions all × ¬ All HasNothingPending all) → ⊥

-- the book of an office that was closed with these sessions
abbrev pub IsBookOf : BoardView → List TicketView → BookView → Type 0
IsBookOf office all book = (programs : ProgramsView) × (IsClosed office all programs × (book.history ≡ flat_history programs.history))

-- the office was closed with these sessions, and the output grew by the text of its history behind the first `next` entries
abbrev pub HasWrittenRest : BoardView → List TicketView → ℕ → Option (List ℕ) → Option (List ℕ) → Type 0
HasWrittenRest office all next old new = (book : BookView) × (IsBookOf office all book × (next ≤ length book.history)
    × Appends old new (text_of_piece next (drop next book.history)))

-- the fault of a close and of writing the rest: memory was refused and nothing was written, or the office was closed with these
-- sessions and the text of the rest wasn't written, or a part of it
abbrev pub IsFaultOfRest : BoardView → List TicketView → ℕ → Option (List ℕ) → Option (List ℕ) → ToolFault → Type 0
IsFaultOfRest office all next old new fault = ((fault ≡ tool.NoMemory) × Keeps old new)
    ⊎ ((book : BookView) × (IsBookOf office all book × IsFaultOfPiece (text_of_piece next (drop next book.history)) old new fault))
