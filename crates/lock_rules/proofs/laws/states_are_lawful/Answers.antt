use Rattle.lock_rules.proofs.Lawful.{lawful}
use Rattle.lock_rules.proofs.laws.states_are_lawful.Goals as goal

pub returns : goal.returns
returns c = lawful
