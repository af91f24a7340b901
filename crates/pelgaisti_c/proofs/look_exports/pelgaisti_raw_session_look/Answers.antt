use Rattle.std.proofs.Common.{rules, ◌≡◌, Some}
use Rattle.pelgaisti_c.proofs.look_exports.pelgaisti_raw_session_look.Goals as goal

pub returns-then-begin_look-clause-ok : goal.returns-then-begin_look-clause-ok
returns-then-begin_look-clause-ok c = λ _.
    let was : c.args.session.now.behind.held.share ≡ Some c.deref_mut.result.now = search rules in
    (c.deref_mut.result.now, c.begin_look.new.self, was, c.put_look.ensures.2, c.begin_look.ensures.begun c.if-begin_look.true)

pub returns-clause-elsewhere : goal.returns-clause-elsewhere
returns-clause-elsewhere c = λ _.
    let was : c.args.session.now.behind.held.share ≡ Some c.deref_mut.result.now = search rules in
    (c.deref_mut.result.now, was, (c.begin_look.ensures.none c.if-begin_look.false).1)
