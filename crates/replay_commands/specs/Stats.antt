-- What `stats` writes: the counters of a legal history, else the verdict.
use Rattle.std.specs.Prelude.{◌≡◌, ℕ, List, All, Option, Result, Ok, Err}
use Rattle.std.specs.Io.KnownBytes.{Appends}
use Rattle.lock_rules.specs.Entries.{Entry}
use Rattle.lock_trace.specs.Entries.{IsEntry}
use Rattle.lock_trace.specs.ReadHistories.{history_of, TellsOfHistory}
use Rattle.command_line.specs.declared.args.Form.{Form}
use Rattle.replay_commands.specs.declared.checking.Verdict.{Verdict}
use Rattle.replay_commands.specs.declared.checking.Verdict.TheVariants as verdict
use Rattle.replay_commands.specs.Verdicts.{IsHistory, IsVerdict, text_of_verdict}
use Rattle.replay_commands.specs.declared.tool_fault.ToolFault.{ToolFault}
use Rattle.replay_commands.specs.declared.tool_fault.ToolFault.TheVariants as tool
use Rattle.replay_commands.specs.Written.{AppendsPart}
use Rattle.replay_commands.specs.StatsText.{text_of_stats}

-- what is written of a history with this verdict: if it is legal, its counters, else the verdict
abbrev pub text_counted : Form → ℕ → List Entry → Verdict → List ℕ
text_counted form n history (verdict.Legal count) = text_of_stats form n history
text_counted form n history (verdict.Illegal first) = text_of_verdict (verdict.Illegal first)

-- the text is what is written of a history of the sessions 1 to n with this verdict
pub record IsCounted (form : Form) (n : ℕ) (verdict : Verdict) (history : List Entry) (text : List ℕ) : Type 0 where
  pub is_right : IsVerdict history verdict
  pub text_is : text ≡ text_counted form n history verdict

-- for some history of the sessions 1 to n, the output grew by what is written of it, and by nothing else
abbrev pub HasCounted : Form → ℕ → Verdict → Option (List ℕ) → Option (List ℕ) → Type 0
HasCounted form n verdict old new =
    (history : List Entry) × (text : List ℕ) × (All (IsEntry n) history × IsCounted form n verdict history text × Appends old new text)

-- for some history of the sessions 1 to n, the output grew by the first bytes of what is written of it, and by nothing else
abbrev pub HasCountedPart : Form → ℕ → Option (List ℕ) → Option (List ℕ) → Type 0
HasCountedPart form n old new =
    (history : List Entry) × (verdict : Verdict) × (text : List ℕ) × (All (IsEntry n) history × IsCounted form n verdict history text × AppendsPart old new text)

-- the result of counting the history that these bytes are; the output holds `old` before and `new` after
abbrev pub Counts : Form → ℕ → List ℕ → Option (List ℕ) → Option (List ℕ) → Result Verdict ToolFault → Type 0
Counts form n bytes old new (Ok found) =
    (history : List Entry) × (text : List ℕ) × ((history_of n bytes ≡ Ok history) × IsCounted form n found history text × Appends old new text)
Counts form n bytes old new (Err (tool.Trace fault)) = TellsOfHistory n bytes fault
Counts form n bytes old new (Err tool.NoMemory) = IsHistory n bytes
Counts form n bytes old new (Err tool.Device) = (history : List Entry) × (found : Verdict) × (text : List ℕ)
    × ((history_of n bytes ≡ Ok history) × IsCounted form n found history text × AppendsPart old new text)
Counts form n bytes old new (Err _) = ⊥
