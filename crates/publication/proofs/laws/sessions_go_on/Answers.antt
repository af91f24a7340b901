use Rattle.publication.proofs.SessionsGoOn.{goes-on}
use Rattle.publication.proofs.laws.sessions_go_on.Goals as goal

pub returns : goal.returns
returns g c = goes-on
