-- The result of a replay, and what the replay writes.
use Rattle.std.specs.Prelude.{◌≡◌, ℕ, List, length, map, take, All, Option, Result, Ok, Err}
use Rattle.std.specs.Io.KnownBytes.{Keeps, Appends}
use Rattle.lock_rules.specs.Entries.{Entry}
use Rattle.lock_rules.specs.Legal.{IsLegal}
use Rattle.lock_trace.specs.declared.trace_row.TraceRow.{TraceRow}
use Rattle.lock_trace.specs.Rows.{IsRow}
use Rattle.lock_trace.specs.Traces.{trace_of, Tells}
use Rattle.lock_trace.specs.Histories.{row_of_entry, text_of_history}
use Rattle.replay_commands.specs.declared.tool_fault.ToolFault.{ToolFault}
use Rattle.replay_commands.specs.declared.tool_fault.ToolFault.TheVariants as tool
use Rattle.replay_commands.specs.Written.{AppendsPart}

-- every row is valid for `n` sessions
abbrev pub AreRows : ℕ → List TraceRow → Type 0
AreRows n rows = All (IsRow n) rows

-- the history is legal and has the calls of the rows, in order
pub record IsHistoryOf (rows : List TraceRow) (history : List Entry) : Type 0 where
  pub calls : map row_of_entry history ≡ rows
  pub legal : IsLegal history

-- the text of the history of the rows
abbrev pub IsTextFor : List TraceRow → List ℕ → Type 0
IsTextFor rows text = (history : List Entry) × (IsHistoryOf rows history × (text ≡ text_of_history history))

-- the output grew by the text of the rows' history, and by nothing else
pub record HasReplayed (rows : List TraceRow) (old new : Option (List ℕ)) : Type 0 where
  pub text : List ℕ
  pub is_history : IsTextFor rows text
  pub written : Appends old new text

-- the output grew by the first bytes of the text of the rows' history, and by nothing else
abbrev pub HasReplayedPart : List TraceRow → Option (List ℕ) → Option (List ℕ) → Type 0
HasReplayedPart rows old new = (text : List ℕ) × (IsTextFor rows text × AppendsPart old new text)

-- for some `count`, the output grew by the whole text of the history of the first `count` rows, and by nothing else
abbrev pub HasReplayedFront : List TraceRow → Option (List ℕ) → Option (List ℕ) → Type 0
HasReplayedFront rows old new = (count : ℕ) × HasReplayed (take count rows) old new

-- for some `count` rows, valid for `n` sessions, the output grew by the text of their history, and by nothing else
abbrev pub HasServed : ℕ → ℕ → Option (List ℕ) → Option (List ℕ) → Type 0
HasServed n count old new = (rows : List TraceRow) × (AreRows n rows × (count ≡ length rows) × HasReplayed rows old new)

-- for some rows, valid for `n` sessions, the output grew by the first bytes of the text of their history, and by nothing else
abbrev pub HasServedPart : ℕ → Option (List ℕ) → Option (List ℕ) → Type 0
HasServedPart n old new = (rows : List TraceRow) × (AreRows n rows × HasReplayedPart rows old new)

-- for some rows, valid for `n` sessions, the output grew by the whole text of the history of the first of them, and by nothing else
abbrev pub HasServedFront : ℕ → Option (List ℕ) → Option (List ℕ) → Type 0
HasServedFront n old new = (rows : List TraceRow) × (AreRows n rows × HasReplayedFront rows old new)

-- a fault that is possible without threads: `Trace`, `NoMemory` or `Device`
abbrev pub IsFaultOfOneThread : ToolFault → Type 0
IsFaultOfOneThread (tool.Trace fault) = Unit {0}
IsFaultOfOneThread tool.NoMemory = Unit {0}
IsFaultOfOneThread tool.Device = Unit {0}
IsFaultOfOneThread tool.GateShut = ⊥
IsFaultOfOneThread tool.TurnLimit = ⊥

-- the bytes are a trace for `n` sessions
abbrev pub IsTrace : ℕ → List ℕ → Type 0
IsTrace n bytes = (rows : List TraceRow) × (trace_of n bytes ≡ Ok rows)

-- the result of a replay of these bytes for `n` sessions; the output holds `old` before and `new` after
abbrev pub Replays : ℕ → List ℕ → Option (List ℕ) → Option (List ℕ) → Result ℕ ToolFault → Type 0
Replays n bytes old new (Ok count) = (rows : List TraceRow) × ((trace_of n bytes ≡ Ok rows) × (count ≡ length rows) × HasReplayed rows old new)
Replays n bytes old new (Err (tool.Trace fault)) = Tells n bytes fault × Keeps old new
Replays n bytes old new (Err tool.NoMemory) = IsTrace n bytes × Keeps old new
Replays n bytes old new (Err tool.Device) = (rows : List TraceRow) × ((trace_of n bytes ≡ Ok rows) × HasReplayedPart rows old new)
Replays n bytes old new (Err tool.GateShut) = ⊥
Replays n bytes old new (Err tool.TurnLimit) = ⊥

-- the result of a replay of these bytes that writes the history in pieces: as above, but that the text of the history of the
-- first rows was written before memory was refused
abbrev pub ReplaysInPieces : ℕ → List ℕ → Option (List ℕ) → Option (List ℕ) → Result ℕ ToolFault → Type 0
ReplaysInPieces n bytes old new (Ok count) = Replays n bytes old new (Ok count)
ReplaysInPieces n bytes old new (Err (tool.Trace fault)) = Replays n bytes old new (Err (tool.Trace fault))
ReplaysInPieces n bytes old new (Err tool.NoMemory) = (rows : List TraceRow) × ((trace_of n bytes ≡ Ok rows) × HasReplayedFront rows old new)
ReplaysInPieces n bytes old new (Err tool.Device) = Replays n bytes old new (Err tool.Device)
ReplaysInPieces n bytes old new (Err tool.GateShut) = ⊥
ReplaysInPieces n bytes old new (Err tool.TurnLimit) = ⊥
