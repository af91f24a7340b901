use Rattle.lock_rules.proofs.States.{grant-one}
use Rattle.lock_rules.proofs.laws.grants_change_one_lock.Goals as goal

pub returns : goal.returns
returns c = grant-one
