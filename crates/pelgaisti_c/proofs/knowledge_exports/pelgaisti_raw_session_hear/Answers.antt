use Rattle.std.proofs.Common.{rules, ◌≡◌, Some}
use Rattle.pelgaisti_c.proofs.knowledge_exports.pelgaisti_raw_session_hear.Goals as goal

pub returns-clause-ok : goal.returns-clause-ok
returns-clause-ok c = λ e. let was : c.args.session.now.behind.held.share ≡ Some c.deref_mut.result.now = search rules in let other : c.args.other.now.behind.held.share ≡ Some c.deref_mut-2.result.now = search rules in
    (c.deref_mut.result.now, c.hear-status.new.share, c.deref_mut-2.result.now, was, c.put-2.ensures.1, other, (c.hear-status.ensures.ok e).0, (c.hear-status.ensures.ok e).1)

pub returns-clause-other_office : goal.returns-clause-other_office
returns-clause-other_office c = λ e. let was : c.args.session.now.behind.held.share ≡ Some c.deref_mut.result.now = search rules in let other : c.args.other.now.behind.held.share ≡ Some c.deref_mut-2.result.now = search rules in
    (c.deref_mut.result.now, c.deref_mut-2.result.now, was, other, (c.hear-status.ensures.failed (λ ok. cc (e, ok))).1)
