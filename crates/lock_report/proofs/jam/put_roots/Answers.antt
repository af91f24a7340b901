use Rattle.lock_report.specs.JamText.{line_of_root}
use Rattle.lock_report.proofs.Pieces.{next_piece}
use Rattle.lock_report.proofs.jam.put_roots.Goals as goal

pub loop-root-preserved : goal.loop-root-preserved
loop-root-preserved c = next_piece line_of_root c.args.roots.now c.loop-root.root-index _ _ _ _ c.loop-root-test.true c.loop-root.invariant c.in_ok-put_root.ensures
