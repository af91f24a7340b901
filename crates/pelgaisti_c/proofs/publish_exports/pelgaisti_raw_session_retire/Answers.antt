use Rattle.std.proofs.Common.{rules, ◌≡◌, Some}
use Rattle.pelgaisti_c.proofs.publish_exports.pelgaisti_raw_session_retire.Goals as goal

pub returns-clause-ok : goal.returns-clause-ok
returns-clause-ok c = λ e. let was : c.args.session.now.behind.held.share ≡ Some c.deref_mut.result.now = search rules in (c.deref_mut.result.now, c.retire-status.new.share, was, c.put.ensures.1, c.retire-status.ensures.ok e)

pub returns-clause-retired : goal.returns-clause-retired
returns-clause-retired c = λ e. let was : c.args.session.now.behind.held.share ≡ Some c.deref_mut.result.now = search rules in (c.deref_mut.result.now, was, c.retire-status.ensures.retired e)

pub returns-clause-pending : goal.returns-clause-pending
returns-clause-pending c = λ e. let was : c.args.session.now.behind.held.share ≡ Some c.deref_mut.result.now = search rules in (c.deref_mut.result.now, was, c.retire-status.ensures.pending e)
