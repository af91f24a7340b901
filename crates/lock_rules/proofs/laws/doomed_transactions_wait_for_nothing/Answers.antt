use Rattle.lock_rules.proofs.Lawful.{lawful}
use Rattle.lock_rules.proofs.laws.doomed_transactions_wait_for_nothing.Goals as goal

pub returns : goal.returns
returns c = λ es. (lawful es).doomed_wait_for_nothing
