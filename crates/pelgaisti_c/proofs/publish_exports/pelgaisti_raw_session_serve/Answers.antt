use Rattle.std.proofs.Common.{rules, ◌≡◌, Some}
use Rattle.pelgaisti_c.proofs.publish_exports.pelgaisti_raw_session_serve.Goals as goal

pub returns-clause-ok : goal.returns-clause-ok
returns-clause-ok c = λ e. let was : c.args.session.now.behind.held.share ≡ Some c.deref_mut.result.now = search rules in
    let s = c.serve-status.ensures in
    (c.deref_mut.result.now, c.serve-status.new.share, was, c.put.ensures.1, (s.passed e, s.starved e, s.put_back e, s.rises, s.calls, s.own e, (λ none j. s.heard j e none), s.same))

pub returns-clause-elsewhere : goal.returns-clause-elsewhere
returns-clause-elsewhere c = λ e. let was : c.args.session.now.behind.held.share ≡ Some c.deref_mut.result.now = search rules in (c.deref_mut.result.now, c.serve-status.new.share, was, c.put.ensures.1, (c.serve-status.ensures.elsewhere e).0)

pub returns-clause-told : goal.returns-clause-told
returns-clause-told c = λ e. let was : c.args.session.now.behind.held.share ≡ Some c.deref_mut.result.now = search rules in
    (c.deref_mut.result.now, c.serve-status.new.share, was, c.put.ensures.1, c.serve-status.ensures.told e)
