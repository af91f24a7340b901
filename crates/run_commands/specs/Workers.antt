-- The work of the threads of a run.
use Rattle.std.specs.Prelude.{◌≡◌, ℕ, ◌+◌, ◌≤◌, nat_le, if◌then◌else◌, List, [], ◌∷◌, map, option_map, Option, Some, None}
use Rattle.lock_rules.specs.declared.calls.Call.{Call}
use Rattle.publication.specs.Views.{BoardView}
use Rattle.lock_rules.specs.declared.calls.Call.TheVariants.{Poll}
use Rattle.lock_programs.specs.Calls.{calls_of}
use Rattle.lock_office.specs.ProgramBoards.{TicketView}
use Rattle.lock_office.specs.Sessions.{IsSessionOf, IsIdle}
use Rattle.lock_trace.specs.declared.trace_row.TraceRow.{TraceRow}
use Rattle.replay_commands.specs.Faults.{number_of_fault}
use Rattle.run_commands.specs.Calls.{calls_collected, calls_of_rows}
use Rattle.replay_commands.specs.declared.tool_fault.ToolFault.{ToolFault}
use Rattle.replay_commands.specs.declared.tool_fault.ToolFault.TheVariants as tool
use Rattle.run_commands.specs.declared.workers.Stop.{Stop}
use Rattle.run_commands.specs.declared.workers.Stop.TheVariants as stop
use Rattle.run_commands.specs.declared.threads.ThreadResult.{ThreadResult}
use Rattle.run_commands.specs.declared.threads.Started.{Started}
use Rattle.run_commands.specs.declared.threads.Started.TheVariants as start

-- the calls of a session: its number, its pending call, and the calls whose answers it collected
pub record Calls : Type 0 where
  pub number : ℕ
  pub pending : Option Call
  pub collected : List Call

-- the first of these calls, of which there is one
abbrev pub first_call : List Call → Call
first_call [] = Poll
first_call (c ∷ cs) = c

-- the calls of a session of an office, of which each program makes one
abbrev pub calls_known : TicketView → Calls
calls_known session = record {
  number = session.number;
  pending = option_map (λ p. first_call (calls_of p.call)) session.pending;
  collected = calls_collected session.collected;
}

-- at most `turns` more turns than `before`
abbrev pub TriedAtMost : (ℕ → Type 0) → ℕ → ℕ → Type 0
TriedAtMost has_tried before turns = (tries : ℕ) × (tries ≤ before + turns) × has_tried tries

-- the session belongs to this office, is idle, and has neither collected an answer nor learnt of the history
pub record IsNewSession (office : BoardView) (session : TicketView) : Type 0 where
  pub ours : IsSessionOf office session
  pub idle : IsIdle session
  pub none : session.collected ≡ []
  pub unaware : session.front ≡ []

-- the session performed its rows: it collected one answer to each of their calls, in order, and is idle
pub record IsPerformed (office : BoardView) (rows : List TraceRow) (session : TicketView) : Type 0 where
  pub ours : IsSessionOf office session
  pub idle : IsIdle session
  pub calls : calls_collected session.collected ≡ calls_of_rows session.number rows

-- if the thread didn't stop early, its session has this number and performed its rows
abbrev pub IsWorkOf : BoardView → ℕ → List TraceRow → ThreadResult → Type 0
IsWorkOf office number rows worked = worked.stop ≡ None → (worked.session.number ≡ number) × IsPerformed office rows worked.session

-- a thread that promises its session's work on these rows, or a session that has nothing left to perform of them
abbrev pub IsStart : BoardView → List TraceRow → Started → Type 0
IsStart office rows (start.Thread handle) = (handle.promise.office.now ≡ office) × (handle.promise.rows.now ≡ rows)
IsStart office rows (start.Idle session) = IsPerformed office rows session

-- the session number of a started session
abbrev pub number_of_start : Started → ℕ
number_of_start (start.Thread handle) = handle.promise.number
number_of_start (start.Idle session) = session.number

-- the numbers of the sessions, in order
abbrev pub numbers_of : List TicketView → List ℕ
numbers_of sessions = map (λ (session : TicketView). session.number) sessions

-- the session numbers of started sessions, in order
abbrev pub numbers_of_starts : List Started → List ℕ
numbers_of_starts starts = map number_of_start starts

-- the fault of a reason to stop
abbrev pub fault_of_stop : Stop → ToolFault
fault_of_stop stop.NoMemory = tool.NoMemory
fault_of_stop stop.Device = tool.Device
fault_of_stop stop.GateShut = tool.GateShut
fault_of_stop stop.TurnLimit = tool.TurnLimit

-- the rank of a reason to stop: the number of its fault
abbrev pub rank_of_stop : Stop → ℕ
rank_of_stop reason = number_of_fault (fault_of_stop reason)

-- the reason to report out of two: the one with the lower rank
abbrev pub first_of_stops : Option Stop → Option Stop → Option Stop
first_of_stops None other = other
first_of_stops (Some one) None = Some one
first_of_stops (Some one) (Some other) = if nat_le (rank_of_stop one) (rank_of_stop other) then Some one else Some other
