use Rattle.lock_explain.specs.ExplanationText.{line_of_blocker}
use Rattle.lock_report.proofs.Pieces.{next_piece}
use Rattle.lock_explain.proofs.request_text.put_blockers.Goals as goal

pub loop-blocker-preserved : goal.loop-blocker-preserved
loop-blocker-preserved c = next_piece (line_of_blocker c.args.start.now) c.args.blockers.now c.loop-blocker.blocker-index _ _ _ _ c.loop-blocker-test.true c.loop-blocker.invariant c.in_ok-put_blocker.ensures
