use Rattle.lock_explain.specs.ExplanationText.{line_of_edge}
use Rattle.lock_report.proofs.Pieces.{next_piece}
use Rattle.lock_explain.proofs.text.put_edges.Goals as goal

pub loop-edge-preserved : goal.loop-edge-preserved
loop-edge-preserved c = next_piece line_of_edge c.args.edges.now c.loop-edge.edge-index _ _ _ _ c.loop-edge-test.true c.loop-edge.invariant c.in_ok-put_edge.ensures
