use Rattle.std.proofs.Common.{rules, ◌≡◌, Some}
use Rattle.pelgaisti_c.proofs.bound_exports.pelgaisti_raw_session_bound_passes.Goals as goal

pub returns-clause-ok : goal.returns-clause-ok
returns-clause-ok c = λ e. let was : c.args.session.now.behind.held.share ≡ Some c.deref_mut.result.now = search rules in
    (c.deref_mut.result.now, c.bound_passes-status.new.share, was, c.put.ensures.1, c.bound_passes-status.ensures.ok e)
