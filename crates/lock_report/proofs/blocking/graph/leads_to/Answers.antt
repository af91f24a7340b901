use Rattle.lock_report.proofs.Walks.{search-told}
use Rattle.lock_report.proofs.blocking.graph.leads_to.Goals as goal

pub returns-clause-walk : goal.returns-clause-walk
returns-clause-walk c =
    search-told c.args.rows.now c.args.waits.now c.requires.pairs c.args.session c.args.other c.reaches.result c.requires.session_some c.requires.other_some c.reaches.ensures.walk
