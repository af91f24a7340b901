-- Faults after which the beginning of a text may be written: what checks ensure of them.
use Rattle.std.proofs.Common.{◌≡◌, ℕ, List, Option, Some, Ok}
use Rattle.replay_commands.specs.declared.checking.Verdict.{Verdict}
use Rattle.glm.specs.Outcomes.{HasPrintedPart}
use Rattle.replay_commands.specs.Verdicts.{Checks, text_of_verdict}
use Rattle.replay_commands.specs.Written.{AppendsPart}

-- a check whose writer failed wrote the beginning of the line
pub check_part : (n : ℕ) (verdict : Verdict) (input old new : Option (List ℕ)) → ((bytes : List ℕ) → input ≡ Some bytes → Checks n bytes (Ok verdict))
    → AppendsPart old new (text_of_verdict verdict) → HasPrintedPart n input old new
check_part n verdict input old new right part = record { verdict = verdict; is_right = right; written = part }
