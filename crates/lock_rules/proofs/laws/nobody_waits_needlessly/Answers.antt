use Rattle.lock_rules.proofs.Lawful.{lawful}
use Rattle.lock_rules.proofs.laws.nobody_waits_needlessly.Goals as goal

pub returns : goal.returns
returns c = λ es. (lawful es).nobody_waits_needlessly
