-- Faults after which the beginning of a text may be written: what runs ensure of them.
use Rattle.std.proofs.Common.{◌≡◌, ℕ, List, Option, Ok, Err, inl, inr}
use Rattle.std.proofs.KnownBytes.{Keeps-refl}
use Rattle.lock_trace.specs.declared.trace_row.TraceRow.{TraceRow}
use Rattle.lock_trace.specs.Traces.{trace_of}
use Rattle.replay_commands.specs.declared.tool_fault.ToolFault.TheVariants as tool
use Rattle.run_commands.specs.declared.workers.Stop.{Stop}
use Rattle.run_commands.specs.declared.workers.Stop.TheVariants as stop
use Rattle.replay_commands.specs.Replays.{AreRows}
use Rattle.run_commands.specs.Runs.{HasPerformedPart, IsTextOfRun, Runs}
use Rattle.run_commands.specs.Workers.{fault_of_stop}
use Rattle.replay_commands.specs.Written.{AppendsPart}

-- a run whose writer failed wrote the beginning of the text
pub run_part : (n : ℕ) (rows : List TraceRow) (text : List ℕ) (old new : Option (List ℕ)) → AreRows n rows → IsTextOfRun rows text
    → AppendsPart old new text → HasPerformedPart n old new
run_part n rows text old new are is part = (rows, (are, inr (text, (is, part))))

-- likewise for known bytes
pub run_part_known : (n : ℕ) (bytes : List ℕ) (rows : List TraceRow) (text : List ℕ) (old new : Option (List ℕ)) → trace_of n bytes ≡ Ok rows
    → IsTextOfRun rows text → AppendsPart old new text → Runs n bytes old new (Err tool.Device)
run_part_known n bytes rows text old new read is part = (rows, (read, inr (text, (is, part))))

-- a run whose threads stopped wrote nothing
pub run_stopped : (n : ℕ) (rows : List TraceRow) (old : Option (List ℕ)) → AreRows n rows → HasPerformedPart n old old
run_stopped n rows old are = (rows, (are, inl (Keeps-refl old)))

-- likewise for known bytes
pub run_stopped_known : (n : ℕ) (bytes : List ℕ) (rows : List TraceRow) (old : Option (List ℕ)) (reason : Stop) → trace_of n bytes ≡ Ok rows
    → Runs n bytes old old (Err (fault_of_stop reason))
run_stopped_known n bytes rows old stop.NoMemory read = ((rows, read), Keeps-refl old)
run_stopped_known n bytes rows old stop.Device read = (rows, (read, inl (Keeps-refl old)))
run_stopped_known n bytes rows old stop.GateShut read = ((rows, read), Keeps-refl old)
run_stopped_known n bytes rows old stop.TurnLimit read = ((rows, read), Keeps-refl old)
