use Rattle.std.proofs.Common.{◌∙◌}
use Rattle.lock_report.specs.Blockers.{told_of}
use Rattle.lock_report.proofs.Wanted.{next_listed, told-kept}
use Rattle.lock_report.proofs.blocking.blockers.told_waits.Goals as goal

pub loop-begun-preserved : goal.loop-begun-preserved
loop-begun-preserved c =
    next_listed (λ claims request. told_of claims c.args.waits.now request) (told-kept c.args.waits.now) c.args.claims.now _ _ _ c.args.opens.now c.loop-begun.begun-index _ _ _ _ c.loop-begun-test.true
    (c.deref.ensures.value ∙ c.in_ok-requests.ensures) (c.deref-in-loop-begun.ensures.value ∙ c.in_ok-requests.ensures) (c.deref-in-loop-begun-2.ensures.value ∙ c.in_ok-jammed.ensures)
    c.request_of-request.ensures c.loop-begun.invariant c.in_ok-add_waits_of.ensures
