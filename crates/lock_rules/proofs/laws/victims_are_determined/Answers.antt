use Rattle.lock_rules.specs.Legal.{state_of}
use Rattle.lock_rules.proofs.Owners.{state-numbered}
use Rattle.lock_rules.proofs.Victims.{determined}
use Rattle.lock_rules.proofs.laws.victims_are_determined.Goals as goal

pub returns : goal.returns
returns c = λ es. determined (state_of es) (state-numbered es)
