use Rattle.lock_rules.proofs.RequestsStand.{request-stands}
use Rattle.lock_rules.proofs.laws.requests_stand.Goals as goal

pub returns : goal.returns
returns c = request-stands
