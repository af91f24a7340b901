use Rattle.std.proofs.Common.{refl}
use Rattle.lock_report.specs.LocksDot.{box_at, boxes_behind}
use Rattle.lock_report.proofs.Suffixes.{next_suffix, no_suffix}
use Rattle.lock_report.proofs.boxes.put_boxes.Goals as goal

pub loop-index-preserved : goal.loop-index-preserved
loop-index-preserved c =
    next_suffix box_at boxes_behind c.args.claims.now c.loop-index.index c.index-claims-index.result c.loop-index.last _ _ _ (λ x xs. refl) c.loop-index-test.true c.in_ok-put_box_at.ensures
    c.loop-index.invariant

pub returns : goal.returns
returns c = no_suffix boxes_behind c.args.claims.now c.loop-index.index c.loop-index.last _ _ refl c.loop-index-test.false c.loop-index.invariant
