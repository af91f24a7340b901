use Rattle.combining.proofs.EndedWaits.{told-all}
use Rattle.combining.proofs.calling.resume.Goals as goal

pub returns-clause-told : goal.returns-clause-told
returns-clause-told g c = told-all c.args.office.now.sessions c.go_on.new.session.front _ (g.T.Listener.list c.clear.new.self) (g.T.Listener.list c.go_on.new.listener) c.clear.ensures.none c.go_on.ensures.told
