use Rattle.lock_rules.proofs.Lawful.{lawful}
use Rattle.lock_rules.proofs.laws.holders_are_compatible.Goals as goal

pub returns : goal.returns
returns c = λ es. (lawful es).holders_compatible
