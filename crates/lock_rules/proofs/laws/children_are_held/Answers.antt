use Rattle.lock_rules.proofs.Lawful.{lawful}
use Rattle.lock_rules.proofs.laws.children_are_held.Goals as goal

pub returns : goal.returns
returns c = λ es. (lawful es).children_held
