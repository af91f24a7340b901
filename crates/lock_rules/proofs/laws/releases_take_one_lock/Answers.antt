use Rattle.lock_rules.specs.Legal.{state_of}
use Rattle.lock_rules.proofs.Steps.{state-lawful}
use Rattle.lock_rules.proofs.Taken.{release-one}
use Rattle.lock_rules.proofs.laws.releases_take_one_lock.Goals as goal

pub returns : goal.returns
returns c = λ es. release-one (state_of es) (state-lawful es)
