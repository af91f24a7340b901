use Rattle.lock_rules.proofs.Grants.{grant-stands}
use Rattle.lock_rules.proofs.laws.grants_stand.Goals as goal

pub returns : goal.returns
returns c = grant-stands
