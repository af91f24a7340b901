use Rattle.lock_rules.proofs.Lawful.{lawful}
use Rattle.lock_rules.proofs.laws.no_incompatible_access.Goals as goal

pub returns : goal.returns
returns c = λ es. (lawful es).access_compatible
