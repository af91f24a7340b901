use Rattle.lock_report.proofs.Wanted.{next_wanted}
use Rattle.lock_report.proofs.blocking.contended.resources_of.Goals as goal

pub loop-request-preserved : goal.loop-request-preserved
loop-request-preserved c =
    next_wanted _ c.same_path_is_equality.ensures.code c.args.requests.now c.loop-request.request-index c.request-item.result _ _ c.loop-request-test.true c.request-item.is c.loop-request.invariant c.in_ok-insert.ensures.keys
