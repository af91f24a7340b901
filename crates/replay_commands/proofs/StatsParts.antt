-- Faults after which the beginning of a text may be written: what counted histories ensure of them.
use Rattle.std.proofs.Common.{◌≡◌, ℕ, List, Option, Ok, Err}
use Rattle.std.specs.List.{All}
use Rattle.lock_rules.specs.Entries.{Entry}
use Rattle.lock_trace.specs.Entries.{IsEntry}
use Rattle.lock_trace.specs.ReadHistories.{history_of}
use Rattle.command_line.specs.declared.args.Form.{Form}
use Rattle.replay_commands.specs.declared.checking.Verdict.{Verdict}
use Rattle.replay_commands.specs.declared.tool_fault.ToolFault.TheVariants as tool
use Rattle.replay_commands.specs.Written.{AppendsPart}
use Rattle.replay_commands.specs.Stats.{Counts, HasCountedPart, IsCounted}

-- counters whose writer failed were written in part
pub counted_part : (form : Form) (n : ℕ) (history : List Entry) (verdict : Verdict) (text : List ℕ) (old new : Option (List ℕ))
    → All (IsEntry n) history → IsCounted form n verdict history text → AppendsPart old new text → HasCountedPart form n old new
counted_part form n history verdict text old new are is part = (history, verdict, text, (are, is, part))

-- likewise for known bytes
pub counted_part_known : (form : Form) (n : ℕ) (bytes : List ℕ) (history : List Entry) (verdict : Verdict) (text : List ℕ) (old new : Option (List ℕ))
    → history_of n bytes ≡ Ok history → IsCounted form n verdict history text → AppendsPart old new text
    → Counts form n bytes old new (Err tool.Device)
counted_part_known form n bytes history verdict text old new read is part = (history, verdict, text, (read, is, part))
