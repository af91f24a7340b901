use Rattle.combining.proofs.EndedWaits.{told-all}
use Rattle.combining.proofs.office.Office.perform.Goals as goal

pub returns-clause-told : goal.returns-clause-told
returns-clause-told g c = told-all c.args.self.now.sessions c.perform_adding.new.session.front _ _ _ c.clear.ensures.none c.perform_adding.ensures.told
