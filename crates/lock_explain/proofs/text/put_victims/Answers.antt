use Rattle.lock_explain.specs.ExplanationText.{line_of_victim}
use Rattle.lock_report.proofs.Pieces.{next_piece}
use Rattle.lock_explain.proofs.text.put_victims.Goals as goal

pub loop-victim-preserved : goal.loop-victim-preserved
loop-victim-preserved c = next_piece line_of_victim c.args.victims.now c.loop-victim.victim-index _ _ _ _ c.loop-victim-test.true c.loop-victim.invariant c.in_ok-put_victim.ensures
