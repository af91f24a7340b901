use Rattle.lock_rules.proofs.Lawful.{lawful}
use Rattle.lock_rules.proofs.laws.polls_tell_how_sessions_stand.Goals as goal

pub returns : goal.returns
returns c = λ es. (lawful es).poll_reports
