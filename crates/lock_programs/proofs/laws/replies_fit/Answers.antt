use Rattle.lock_rules.specs.State.{empty}
use Rattle.lock_programs.proofs.Steps.{last-fits}
use Rattle.lock_programs.proofs.laws.replies_fit.Goals as goal

pub returns : goal.returns
returns c = last-fits empty
