use Rattle.lock_rules.proofs.DoomsStand.{doom-stands}
use Rattle.lock_rules.proofs.laws.dooms_stand.Goals as goal

pub returns : goal.returns
returns c = doom-stands
