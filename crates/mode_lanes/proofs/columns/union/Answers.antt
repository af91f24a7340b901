use Rattle.std.proofs.Common.{◌∙◌, sym, arith}
use Rattle.std.specs.Prelude.{bit_or}
use Rattle.std.proofs.lemmas.Simd.{length-chunk, length-zip2}
use lib.Lanes.{chunk}
use Rattle.mode_lanes.proofs.Unions.{union-chunk, union-tail, whole_rest, fold-or}
use Rattle.mode_lanes.proofs.columns.union.Goals as goal

pub loop-at-preserved : goal.loop-at-preserved
loop-at-preserved c =
    let at = c.loop-at.at in
    let column = c.args.column.now in
    let h = c.loop-at.invariant in
    record {
      within = omega arith;
      lanes = length-zip2 bit_or c.loop-at.all (chunk at 16 column) (h.lanes ∙ sym (length-chunk at 16 column (omega arith))) ∙ h.lanes;
      union = union-chunk column at 16 c.loop-at.all h.lanes (omega arith) h.union;
    }

pub returns : goal.returns
returns c = rw (fold-or 0 c.loop-at.all) (rw c.loop-at.invariant.union (rw c.union_of_tail.ensures (rw (whole_rest c.args.column.now c.loop-at.at) (union-tail c.args.column.now c.loop-at.at))))
