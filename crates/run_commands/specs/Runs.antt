-- The result of a run on threads, and what the run writes.
use Rattle.std.specs.Prelude.{◌≡◌, ◌⊎◌, ℕ, List, length, Option, Result, Ok, Err}
use Rattle.std.specs.Io.KnownBytes.{Keeps, Appends}
use Rattle.lock_rules.specs.Entries.{Entry}
use Rattle.lock_rules.specs.Legal.{IsLegal}
use Rattle.sequential.specs.Histories.{calls_of}
use Rattle.lock_trace.specs.declared.trace_row.TraceRow.{TraceRow}
use Rattle.lock_trace.specs.Traces.{trace_of, Tells}
use Rattle.lock_trace.specs.Histories.{text_of_history}
use Rattle.replay_commands.specs.declared.tool_fault.ToolFault.{ToolFault}
use Rattle.replay_commands.specs.declared.tool_fault.ToolFault.TheVariants as tool
use Rattle.run_commands.specs.Calls.{calls_answered, calls_of_rows}
use Rattle.replay_commands.specs.Replays.{AreRows, IsTrace}
use Rattle.replay_commands.specs.Written.{AppendsPart}

-- the history is legal, and the calls of each session in it are the calls of that session's rows, in order
pub record IsRunOf (rows : List TraceRow) (history : List Entry) : Type 0 where
  pub legal : IsLegal history
  pub calls : (session : ℕ) → calls_answered (calls_of session history) ≡ calls_of_rows session rows
  pub count : length history ≡ length rows

-- the text of some such history
abbrev pub IsTextOfRun : List TraceRow → List ℕ → Type 0
IsTextOfRun rows text = (history : List Entry) × (IsRunOf rows history × (text ≡ text_of_history history))

-- the output grew by the text of some such history, and by nothing else
pub record HasRun (rows : List TraceRow) (old new : Option (List ℕ)) : Type 0 where
  pub text : List ℕ
  pub is_history : IsTextOfRun rows text
  pub written : Appends old new text

-- nothing was written, or the output grew by the first bytes of the text of some such history, and by nothing else
abbrev pub HasRunPart : List TraceRow → Option (List ℕ) → Option (List ℕ) → Type 0
HasRunPart rows old new = Keeps old new ⊎ ((text : List ℕ) × (IsTextOfRun rows text × AppendsPart old new text))

-- for some `count` rows, valid for `n` sessions, the output grew by the text of such a history, and by nothing else
abbrev pub HasPerformed : ℕ → ℕ → Option (List ℕ) → Option (List ℕ) → Type 0
HasPerformed n count old new = (rows : List TraceRow) × (AreRows n rows × (count ≡ length rows) × HasRun rows old new)

-- for some rows, valid for `n` sessions, nothing was written, or the first bytes of the text of such a history
abbrev pub HasPerformedPart : ℕ → Option (List ℕ) → Option (List ℕ) → Type 0
HasPerformedPart n old new = (rows : List TraceRow) × (AreRows n rows × HasRunPart rows old new)

-- the result of a run of these bytes for `n` sessions; the output holds `old` before and `new` after
abbrev pub Runs : ℕ → List ℕ → Option (List ℕ) → Option (List ℕ) → Result ℕ ToolFault → Type 0
Runs n bytes old new (Ok count) = (rows : List TraceRow) × ((trace_of n bytes ≡ Ok rows) × (count ≡ length rows) × HasRun rows old new)
Runs n bytes old new (Err (tool.Trace fault)) = Tells n bytes fault × Keeps old new
Runs n bytes old new (Err tool.NoMemory) = IsTrace n bytes × Keeps old new
Runs n bytes old new (Err tool.Device) = (rows : List TraceRow) × ((trace_of n bytes ≡ Ok rows) × HasRunPart rows old new)
Runs n bytes old new (Err tool.GateShut) = IsTrace n bytes × Keeps old new
Runs n bytes old new (Err tool.TurnLimit) = IsTrace n bytes × Keeps old new

-- the output grew by the whole text of some legal history, and by nothing else
abbrev pub HasWrittenFront : Option (List ℕ) → Option (List ℕ) → Type 0
HasWrittenFront old new = (history : List Entry) × (IsLegal history × Appends old new (text_of_history history))

-- the output grew by the first bytes of the text of some legal history, and by nothing else
abbrev pub HasWrittenPart : Option (List ℕ) → Option (List ℕ) → Type 0
HasWrittenPart old new = (history : List Entry) × (IsLegal history × AppendsPart old new (text_of_history history))

-- the result of a run of these bytes that writes the history in pieces: as above, but that the whole text of a legal history
-- was written before memory was refused or a thread stopped, and the beginning of such a text before a device failed
abbrev pub RunsInPieces : ℕ → List ℕ → Option (List ℕ) → Option (List ℕ) → Result ℕ ToolFault → Type 0
RunsInPieces n bytes old new (Ok count) = Runs n bytes old new (Ok count)
RunsInPieces n bytes old new (Err (tool.Trace fault)) = Runs n bytes old new (Err (tool.Trace fault))
RunsInPieces n bytes old new (Err tool.NoMemory) = IsTrace n bytes × HasWrittenFront old new
RunsInPieces n bytes old new (Err tool.Device) = IsTrace n bytes × HasWrittenPart old new
RunsInPieces n bytes old new (Err tool.GateShut) = IsTrace n bytes × HasWrittenFront old new
RunsInPieces n bytes old new (Err tool.TurnLimit) = IsTrace n bytes × HasWrittenFront old new
