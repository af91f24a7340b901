use Rattle.lock_rules.proofs.Lawful.{lawful}
use Rattle.lock_rules.proofs.laws.sessions_have_one_request.Goals as goal

pub returns : goal.returns
returns c = λ es. (lawful es).one_request
