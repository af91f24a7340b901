use Rattle.std.proofs.Common.{◌+◌, ◌-◌, Bool, ◌&&◌, ◌||◌, eqb, leb, ap, ◌∙◌}
use Rattle.mode_lanes.specs.Masks.{meets}
use Rattle.waits_for.specs.inner.Bits.{has_bit}
use Rattle.waits_for.proofs.BitRows.{bit-marked}
use Rattle.waits_for.proofs.NumbersMet.{bit-of, and-both}
use Rattle.waits_for.proofs.bits.set_marked.Goals as goal

pub returns : goal.returns
returns c j =
    let n = c.args.number in
    let from = c.args.from in
    bit-marked c.args.words.now (from + n - 1) c.args.mark c.requires.zero_or_one c.requires.room j
    ∙ ap (λ (x : Bool). has_bit c.args.words.now j || x) (ap (λ (x : Bool). x && meets 1 c.args.mark) (bit-of j from n c.requires.some) ∙ and-both (leb from j) (eqb n (j - from + 1)) (meets 1 c.args.mark))
