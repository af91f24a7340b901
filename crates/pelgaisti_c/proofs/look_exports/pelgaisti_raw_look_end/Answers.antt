use Rattle.std.proofs.Common.{rules, ◌≡◌, Some}
use Rattle.pelgaisti_c.proofs.look_exports.pelgaisti_raw_look_end.Goals as goal

pub returns-clause-ok : goal.returns-clause-ok
returns-clause-ok c = λ _.
    let was : c.args.view.now.behind.lent.share ≡ Some c.deref_mut.result.now = search rules in
    (c.deref_mut.result.now, c.end_look.new.self, was, c.put.ensures.1, c.end_look.ensures)
