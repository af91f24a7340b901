use Rattle.std.proofs.Common.{◌∙◌, ap, arith, cond, ℕ}
use Rattle.std.proofs.lemmas.Simd.{length-chunk, get_or-chunk, length-put_chunk}
use lib.Lanes.{chunk}
use Rattle.mode_lanes.specs.Masks.{meets}
use Rattle.mode_lanes.proofs.Hits.{marked, marks-chunk, length-marks}
use Rattle.mode_lanes.proofs.columns.mark_meets.Goals as goal

pub loop-at-preserved : goal.loop-at-preserved
loop-at-preserved c =
    let at = c.loop-at.at in
    let mask = c.args.mask in
    let column = c.args.column.now in
    let h = c.loop-at.invariant in
    let bytes = chunk at 16 column in
    let full = length-chunk at 16 column (omega arith) in
    record {
      within = omega arith;
      room = length-put_chunk at c.loop-at.marks _ ∙ h.room;
      marks = marks-chunk (meets mask) column c.loop-at.marks _ at 16 (length-marks mask 16 bytes full) (omega (arith, h.room)) h.marks (λ j lt. marked mask 16 bytes full j lt ∙ ap (λ (x : ℕ). cond (meets mask x) 1 0) (get_or-chunk at 16 column j 0 lt));
    }
