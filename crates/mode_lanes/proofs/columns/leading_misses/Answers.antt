use Rattle.std.proofs.Common.{sym, ap, ◌∙◌, arith}
use lib.Count.{count_trailing_zeros}
use lib.Lanes.{chunk}
use Rattle.std.proofs.lemmas.Simd.{length-chunk, leading_from_mask_l, trailing_mask_l}
use Rattle.mode_lanes.specs.Masks.{meets}
use Rattle.mode_lanes.proofs.Hits.{hits}
use Rattle.mode_lanes.proofs.columns.leading_misses.Goals as goal

pub returns-then-hits-eq0 : goal.returns-then-hits-eq0
returns-then-hits-eq0 c =
    let bytes = chunk c.args.at 16 c.args.column.now in
    let long = length-chunk c.args.at 16 c.args.column.now c.requires in
    let bits = hits c.args.mask 16 bytes long (omega arith) in
    sym (leading_from_mask_l (meets c.args.mask) bytes (sym bits ∙ c.if-hits-eq0.true) ∙ long)

pub returns-else-hits-eq0 : goal.returns-else-hits-eq0
returns-else-hits-eq0 c =
    let bytes = chunk c.args.at 16 c.args.column.now in
    let long = length-chunk c.args.at 16 c.args.column.now c.requires in
    let bits = hits c.args.mask 16 bytes long (omega arith) in
    ap (count_trailing_zeros 64) bits ∙ trailing_mask_l (meets c.args.mask) 64 bytes (omega (arith, long)) (omega (arith, bits, c.if-hits-eq0.false))
