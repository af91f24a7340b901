-- Faults after which the beginning of a text may be written: what replays ensure of them.
use Rattle.std.proofs.Common.{◌≡◌, ℕ, List, Option, Ok, Err}
use Rattle.lock_trace.specs.declared.trace_row.TraceRow.{TraceRow}
use Rattle.lock_trace.specs.Traces.{trace_of}
use Rattle.replay_commands.specs.declared.tool_fault.ToolFault.TheVariants as tool
use Rattle.replay_commands.specs.Replays.{AreRows, HasServedPart, IsTextFor, Replays}
use Rattle.replay_commands.specs.Written.{AppendsPart}

-- a replay whose writer failed wrote the beginning of the text
pub replay_part : (n : ℕ) (rows : List TraceRow) (text : List ℕ) (old new : Option (List ℕ)) → AreRows n rows → IsTextFor rows text
    → AppendsPart old new text → HasServedPart n old new
replay_part n rows text old new are is part = (rows, (are, (text, (is, part))))

-- likewise for known bytes
pub replay_part_known : (n : ℕ) (bytes : List ℕ) (rows : List TraceRow) (text : List ℕ) (old new : Option (List ℕ)) → trace_of n bytes ≡ Ok rows
    → IsTextFor rows text → AppendsPart old new text → Replays n bytes old new (Err tool.Device)
replay_part_known n bytes rows text old new read is part = (rows, (read, (text, (is, part))))
