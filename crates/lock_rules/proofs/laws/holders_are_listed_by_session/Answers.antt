use Rattle.lock_rules.proofs.Lawful.{lawful}
use Rattle.lock_rules.proofs.laws.holders_are_listed_by_session.Goals as goal

pub returns : goal.returns
returns c = λ es. (lawful es).holders_listed
