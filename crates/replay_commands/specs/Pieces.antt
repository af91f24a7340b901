-- The faults of a history that is written in pieces; cited by private contracts only.
use Rattle.std.specs.Prelude.{ℕ, List, Option}
use Rattle.std.specs.Io.KnownBytes.{Keeps}
use Rattle.lock_trace.specs.declared.trace_row.TraceRow.{TraceRow}
use Rattle.replay_commands.specs.declared.tool_fault.ToolFault.{ToolFault}
use Rattle.replay_commands.specs.declared.tool_fault.ToolFault.TheVariants as tool
use Rattle.replay_commands.specs.Replays.{HasReplayedFront, HasReplayedPart}
use Rattle.replay_commands.specs.Written.{AppendsPart}

-- the fault of a piece with this text: `NoMemory`, and nothing was written; or `Device`, and the beginning of the text was written
abbrev pub IsFaultOfPiece : List ℕ → Option (List ℕ) → Option (List ℕ) → ToolFault → Type 0
IsFaultOfPiece text old new (tool.Trace fault) = ⊥
IsFaultOfPiece text old new tool.NoMemory = Keeps old new
IsFaultOfPiece text old new tool.Device = AppendsPart old new text
IsFaultOfPiece text old new tool.GateShut = ⊥
IsFaultOfPiece text old new tool.TurnLimit = ⊥

-- the fault of the history of these rows: `NoMemory`, and the text of the history of the first rows was written; or `Device`,
-- and the beginning of the text of the whole history was written
abbrev pub IsFaultOfPieces : List TraceRow → Option (List ℕ) → Option (List ℕ) → ToolFault → Type 0
IsFaultOfPieces rows old new (tool.Trace fault) = ⊥
IsFaultOfPieces rows old new tool.NoMemory = HasReplayedFront rows old new
IsFaultOfPieces rows old new tool.Device = HasReplayedPart rows old new
IsFaultOfPieces rows old new tool.GateShut = ⊥
IsFaultOfPieces rows old new tool.TurnLimit = ⊥
