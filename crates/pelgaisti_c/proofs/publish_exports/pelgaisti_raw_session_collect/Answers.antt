use Rattle.std.proofs.Common.{rules, ◌≡◌, Some}
use Rattle.pelgaisti_c.proofs.publish_exports.pelgaisti_raw_session_collect.Goals as goal

pub returns-clause-ok : goal.returns-clause-ok
returns-clause-ok c = λ e. let was : c.args.session.now.behind.held.share ≡ Some c.deref_mut.result.now = search rules in (c.deref_mut.result.now, c.collect-status.new.share, was, c.put.ensures.1, c.collect-status.ensures.ok e)

pub returns-clause-nothing : goal.returns-clause-nothing
returns-clause-nothing c = λ e. let was : c.args.session.now.behind.held.share ≡ Some c.deref_mut.result.now = search rules in (c.deref_mut.result.now, was, c.collect-status.ensures.nothing e)

pub returns-clause-late : goal.returns-clause-late
returns-clause-late c = λ e.
    let was : c.args.session.now.behind.held.share ≡ Some c.deref_mut.result.now = search rules in
    let late = c.collect-status.ensures.late e in
    (c.deref_mut.result.now, was, late.0, late.1)

pub returns-clause-several : goal.returns-clause-several
returns-clause-several c = λ e. let was : c.args.session.now.behind.held.share ≡ Some c.deref_mut.result.now = search rules in (c.deref_mut.result.now, was, c.collect-status.ensures.several e)
