-- The verdict of a check of a history.
use Rattle.std.specs.Prelude.{◌≡◌, ℕ, ◌+◌, ◌<◌, List, [], ◌∷◌, ◌++◌, length, take, Result, Ok, Err, codes, decimal}
use Rattle.lock_rules.specs.Entries.{Entry}
use Rattle.lock_rules.specs.Legal.{IsLegal, state_of}
use Rattle.lock_rules.specs.Step.{step}
use Rattle.lock_trace.specs.ReadHistories.{history_of, TellsOfHistory}
use Rattle.replay_commands.specs.declared.checking.Verdict.{Verdict}
use Rattle.replay_commands.specs.declared.checking.Verdict.TheVariants as verdict
use Rattle.replay_commands.specs.declared.finding.Finding.{Finding}
use Rattle.replay_commands.specs.declared.finding.Finding.TheVariants as finding
use Rattle.replay_commands.specs.declared.finding.WrongReply.{WrongReply}
use Rattle.replay_commands.specs.declared.tool_fault.ToolFault.{ToolFault}
use Rattle.replay_commands.specs.declared.tool_fault.ToolFault.TheVariants as tool

-- `place` is the first wrong entry: the prefix up to and including it isn't legal, and every shorter prefix is
pub record IsFirstWrong (history : List Entry) (place : ℕ) : Type 0 where
  pub within : place < length history
  pub wrong : ¬ IsLegal (take (place + 1) history)
  pub least : (before : ℕ) → before < place → IsLegal (take (before + 1) history)

-- `wrong` is the first wrong entry, with its place and the reply that the lock table gives there
pub record IsWrongReply (history : List Entry) (wrong : WrongReply) : Type 0 where
  pub first : IsFirstWrong history wrong.place
  pub told : take (wrong.place + 1) history ≡ take wrong.place history ++ wrong.said ∷ []
  pub given : wrong.given ≡ (step (state_of (take wrong.place history)) wrong.said.session wrong.said.call).reply

-- the verdict is right: the history is legal and has `count` entries, or `place` is its first wrong entry
abbrev pub IsVerdict : List Entry → Verdict → Type 0
IsVerdict history (verdict.Legal count) = (count ≡ length history) × IsLegal history
IsVerdict history (verdict.Illegal place) = IsFirstWrong history place

-- the verdict of a finding
abbrev pub verdict_of : Finding → Verdict
verdict_of (finding.Legal count) = verdict.Legal count
verdict_of (finding.Wrong wrong) = verdict.Illegal wrong.place

-- the result with the verdict of its finding
abbrev pub verdict_in : {F : Type 0} → Result Finding F → Result Verdict F
verdict_in (Ok found) = Ok (verdict_of found)
verdict_in (Err fault) = Err fault

-- the finding is right: the history is legal and has `count` entries, or this is its first wrong reply
abbrev pub IsFinding : List Entry → Finding → Type 0
IsFinding history (finding.Legal count) = (count ≡ length history) × IsLegal history
IsFinding history (finding.Wrong wrong) = IsWrongReply history wrong

-- the bytes are a history for `n` sessions
abbrev pub IsHistory : ℕ → List ℕ → Type 0
IsHistory n bytes = (history : List Entry) × (history_of n bytes ≡ Ok history)

-- the result of a check of these bytes for `n` sessions
abbrev pub Checks : ℕ → List ℕ → Result Verdict ToolFault → Type 0
Checks n bytes (Ok found) = (history : List Entry) × ((history_of n bytes ≡ Ok history) × IsVerdict history found)
Checks n bytes (Err (tool.Trace fault)) = TellsOfHistory n bytes fault
Checks n bytes (Err tool.NoMemory) = IsHistory n bytes
Checks n bytes (Err _) = ⊥

-- the result of a check of these bytes for `n` sessions, with the first wrong reply
abbrev pub Finds : ℕ → List ℕ → Result Finding ToolFault → Type 0
Finds n bytes (Ok found) = (history : List Entry) × ((history_of n bytes ≡ Ok history) × IsFinding history found)
Finds n bytes (Err fault) = Checks n bytes (Err fault)

-- a fault that is possible in a check: `Trace` or `NoMemory`, since a check neither writes nor starts threads
abbrev pub IsFaultOfCheck : ToolFault → Type 0
IsFaultOfCheck (tool.Trace fault) = Unit {0}
IsFaultOfCheck tool.NoMemory = Unit {0}
IsFaultOfCheck _ = ⊥

-- the line that is printed for a verdict
abbrev pub text_of_verdict : Verdict → List ℕ
text_of_verdict (verdict.Legal count) = codes "legal " ++ decimal count ++ 10 ∷ []
text_of_verdict (verdict.Illegal place) = codes "illegal " ++ decimal place ++ 10 ∷ []
