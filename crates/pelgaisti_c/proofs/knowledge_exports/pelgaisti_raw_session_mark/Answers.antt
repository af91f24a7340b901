use Rattle.std.proofs.Common.{rules, ◌≡◌, Some}
use Rattle.pelgaisti_c.proofs.knowledge_exports.pelgaisti_raw_session_mark.Goals as goal

pub returns-clause-ok : goal.returns-clause-ok
returns-clause-ok c = λ _. let was : c.args.session.now.behind.held.share ≡ Some c.deref.result.now = search rules in (c.deref.result.now, was, search rules, search rules)
