use Rattle.lock_report.specs.JamText.{line_if_victim}
use Rattle.lock_report.proofs.Pieces.{next_piece}
use Rattle.lock_report.proofs.jam.put_victims.Goals as goal

pub loop-begun-preserved : goal.loop-begun-preserved
loop-begun-preserved c = next_piece line_if_victim c.args.opens.now c.loop-begun.begun-index _ _ _ _ c.loop-begun-test.true c.loop-begun.invariant c.in_ok-put_victim.ensures
