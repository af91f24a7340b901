use Rattle.lock_rules.proofs.Lawful.{lawful}
use Rattle.lock_rules.proofs.laws.locks_are_few.Goals as goal

pub returns : goal.returns
returns c = λ es. (lawful es).locks_bounded
