use Rattle.std.proofs.Common.{◌∙◌, ◌++◌, List, ap}
use Rattle.lock_report.specs.Jam.{granted_on}
use Rattle.lock_report.proofs.Jammed.{next_mapped}
use Rattle.lock_report.proofs.blocking.grants.granted_by_abort.Goals as goal

pub loop-queue-preserved : goal.loop-queue-preserved
loop-queue-preserved c =
    next_mapped (granted_on c.args.session) (λ q. q.items) c.args.jammed.now c.loop-queue.queue-index c.queue-item.result _ _ c.loop-queue-test.true c.queue-item.is c.loop-queue.invariant
    (c.in_ok-add_granted_on.ensures ∙ ap (λ (l : List _). c.loop-queue.granted.items ++ granted_on c.args.session l) c.deref.ensures.value)
