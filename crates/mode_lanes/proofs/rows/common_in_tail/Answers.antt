use Rattle.std.proofs.Common.{ℕ, sym, ◌∙◌, ap, take, arith}
use Rattle.std.specs.Prelude.{bit_and}
use lib.Lanes.{zip2}
use Rattle.mode_lanes.specs.Masks.{union_of}
use Rattle.mode_lanes.proofs.Unions.{common-item, common-whole}
use Rattle.mode_lanes.proofs.rows.common_in_tail.Goals as goal

pub loop-k-preserved : goal.loop-k-preserved
loop-k-preserved c = rw c.loop-k.invariant (sym (common-item c.args.row.now c.args.other.now c.requires c.loop-k.k (omega arith)))

pub returns : goal.returns
returns c =
    let row = c.args.row.now in
    let other = c.args.other.now in
    c.loop-k.invariant ∙ ap (λ (n : ℕ). union_of (take n (zip2 bit_and row other))) (omega arith) ∙ common-whole row other c.requires
