use Rattle.std.proofs.Common.{◌≡◌, inl, inr, subst, sym}
use Rattle.glm.specs.Streams.{HasDoneInFile}
use Rattle.glm.proofs.Streams.{file_failed_in_file}
use Rattle.glm.proofs.commands.perform_to_file.Goals as goal

-- what the command did is said of the file that it wrote, of which no bytes are known
pub returns-then-not-is_done : goal.returns-then-not-is_done
returns-then-not-is_done g c = λ words asked.
    elim c.unwritten.ensures [
      | inl same ↦ subst (HasDoneInFile words _) (sym same) (_, _, c.perform-outcome.ensures words asked)
      | inr fault ↦ file_failed_in_file words _ c.unwritten.result fault
    ]

pub returns-in-Ok-replace : goal.returns-in-Ok-replace
returns-in-Ok-replace g c = λ words asked. (_, _, c.perform-outcome.ensures words asked)
