-- Faults after which the beginning of a text may be written: what shown states ensure of them.
use Rattle.std.proofs.Common.{◌≡◌, ℕ, List, Option, Ok, Err}
use Rattle.std.specs.List.{All}
use Rattle.lock_rules.specs.Entries.{Entry}
use Rattle.lock_trace.specs.Entries.{IsEntry}
use Rattle.lock_trace.specs.ReadHistories.{history_of}
use Rattle.replay_commands.specs.declared.checking.Verdict.{Verdict}
use Rattle.history_commands.specs.Showing.{HasShownPart, IsShown, Shows}
use Rattle.command_line.specs.declared.args.Form.{Form}
use Rattle.history_commands.specs.declared.show_fault.ShowFault.TheVariants as show
use Rattle.replay_commands.specs.Written.{AppendsPart}

-- a state whose writer failed was written in part
pub show_part : (form : Form) (n : ℕ) (asked : Option ℕ) (history : List Entry) (verdict : Verdict) (text : List ℕ) (old new : Option (List ℕ))
    → All (IsEntry n) history → IsShown form n asked verdict history text → AppendsPart old new text → HasShownPart form n asked old new
show_part form n asked history verdict text old new are is part = (history, verdict, text, (are, is, part))

-- likewise for known bytes
pub show_part_known : (form : Form) (n : ℕ) (asked : Option ℕ) (bytes : List ℕ) (history : List Entry) (verdict : Verdict) (text : List ℕ) (old new : Option (List ℕ))
    → history_of n bytes ≡ Ok history → IsShown form n asked verdict history text → AppendsPart old new text
    → Shows form n asked bytes old new (Err show.Device)
show_part_known form n asked bytes history verdict text old new read is part = (history, verdict, text, (read, is, part))
