-- Faults after which the beginning of a text may be written: what drawn histories ensure of them.
use Rattle.std.proofs.Common.{◌≡◌, ℕ, List, Option, Ok, Err}
use Rattle.std.specs.List.{All}
use Rattle.lock_rules.specs.Entries.{Entry}
use Rattle.lock_trace.specs.Entries.{IsEntry}
use Rattle.lock_trace.specs.ReadHistories.{history_of}
use Rattle.replay_commands.specs.declared.checking.Verdict.{Verdict}
use Rattle.history_commands.specs.Drawing.{Draws, HasDrawnPart, IsDrawn}
use Rattle.history_commands.specs.declared.show_fault.ShowFault.TheVariants as show
use Rattle.replay_commands.specs.Written.{AppendsPart}

-- a picture whose writer failed was written in part
pub drawn_part : (n : ℕ) (from to : Option ℕ) (history : List Entry) (verdict : Verdict) (text : List ℕ) (old new : Option (List ℕ))
    → All (IsEntry n) history → IsDrawn from to verdict history text → AppendsPart old new text → HasDrawnPart n from to old new
drawn_part n from to history verdict text old new are is part = (history, verdict, text, (are, is, part))

-- likewise for known bytes
pub drawn_part_known : (n : ℕ) (from to : Option ℕ) (bytes : List ℕ) (history : List Entry) (verdict : Verdict) (text : List ℕ) (old new : Option (List ℕ))
    → history_of n bytes ≡ Ok history → IsDrawn from to verdict history text → AppendsPart old new text
    → Draws n from to bytes old new (Err show.Device)
drawn_part_known n from to bytes history verdict text old new read is part = (history, verdict, text, (read, is, part))
