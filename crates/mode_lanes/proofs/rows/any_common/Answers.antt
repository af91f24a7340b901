use Rattle.std.proofs.Common.{sym, ◌∙◌, arith}
use Rattle.std.specs.Prelude.{bit_and, bit_or}
use Rattle.std.proofs.lemmas.Simd.{length-chunk, length-zip2}
use lib.Lanes.{chunk, zip2}
use Rattle.mode_lanes.proofs.Unions.{common-chunk, common-some, fold-or, union-tail, whole_rest, zip2-drop}
use Rattle.mode_lanes.proofs.rows.any_common.Goals as goal

pub loop-at-preserved : goal.loop-at-preserved
loop-at-preserved c =
    let at = c.loop-at.at in
    let row = c.args.row.now in
    let other = c.args.other.now in
    let h = c.loop-at.invariant in
    let mine = length-chunk at 4 row (omega arith) in
    let theirs = length-chunk at 4 other (omega arith) in
    record {
      within = omega arith;
      lanes = length-zip2 bit_or c.loop-at.common (zip2 bit_and (chunk at 4 row) (chunk at 4 other)) (h.lanes ∙ sym (length-zip2 bit_and (chunk at 4 row) (chunk at 4 other) (mine ∙ sym theirs) ∙ mine)) ∙ h.lanes;
      common = common-chunk row other c.requires at 4 c.loop-at.common h.lanes (omega arith) h.common;
    }

pub returns : goal.returns
returns c =
    let row = c.args.row.now in
    let other = c.args.other.now in
    let at = c.loop-at.at in
    common-some row other c.requires _ (rw (fold-or 0 c.loop-at.common) (rw c.loop-at.invariant.common (rw c.common_in_tail-tail.ensures (rw (whole_rest row at) (rw (whole_rest other at) (rw (zip2-drop bit_and at row other) (union-tail (zip2 bit_and row other) at)))))))
