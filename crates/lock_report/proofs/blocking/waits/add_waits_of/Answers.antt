use Rattle.std.proofs.Common.{◌∙◌}
use Rattle.lock_report.proofs.Ahead.{next-wait, one-wanted}
use Rattle.lock_report.proofs.blocking.waits.add_waits_of.Goals as goal

pub loop-before-preserved : goal.loop-before-preserved
loop-before-preserved c =
    next-wait c.loop-before.before c.args.claims.now _ c.in-Some.request _ _ _ _ (c.deref.ensures.value ∙ (c.in_ok-queue.ensures ∙ one-wanted c.in-Some.request c.args.claims.now)) (c.in_ok-blockers.ensures (_)) c.loop-before.invariant c.in_ok-add_wait.ensures
