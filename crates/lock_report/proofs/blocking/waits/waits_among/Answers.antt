use Rattle.std.proofs.Common.{◌∙◌}
use Rattle.lock_report.specs.Blocking.{waits_of}
use Rattle.lock_report.proofs.Wanted.{next_listed, waits-kept}
use Rattle.lock_report.proofs.blocking.waits.waits_among.Goals as goal

pub loop-begun-preserved : goal.loop-begun-preserved
loop-begun-preserved c =
    next_listed (waits_of c.args.sessions) (waits-kept c.args.sessions) c.args.claims.now _ _ _ c.args.opens.now c.loop-begun.begun-index _ _ _ _ c.loop-begun-test.true
    (c.deref.ensures.value ∙ c.in_ok-requests.ensures) (c.deref-in-loop-begun.ensures.value ∙ c.in_ok-requests.ensures) (c.deref-in-loop-begun-2.ensures.value ∙ c.in_ok-jammed.ensures)
    c.request_of-request.ensures c.loop-begun.invariant c.in_ok-add_waits_of.ensures
