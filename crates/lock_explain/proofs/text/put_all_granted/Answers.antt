use Rattle.lock_explain.specs.ExplanationText.{line_of_granted}
use Rattle.lock_report.proofs.Pieces.{next_item}
use Rattle.lock_explain.proofs.text.put_all_granted.Goals as goal

pub loop-request-preserved : goal.loop-request-preserved
loop-request-preserved c =
    next_item line_of_granted c.args.requests.now c.loop-request.request-index c.request-item.result _ _ _ c.loop-request-test.true c.request-item.is
    c.loop-request.invariant c.in_ok-put_granted.ensures
