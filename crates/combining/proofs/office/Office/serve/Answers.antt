use Rattle.combining.proofs.EndedWaits.{told-all}
use Rattle.combining.proofs.office.Office.serve.Goals as goal

pub returns-clause-told : goal.returns-clause-told
returns-clause-told g c = told-all c.args.self.now.sessions c.pass.new.session.front _ _ _ c.clear.ensures.none c.pass.ensures.told
