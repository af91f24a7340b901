use Rattle.std.proofs.Common.{◌+◌, ◌∙◌, length-set, arith}
use Rattle.waits_for.proofs.BitRows.{bit-cleared}
use Rattle.waits_for.proofs.bits.clear_many.Goals as goal

pub loop-i-preserved : goal.loop-i-preserved
loop-i-preserved c =
    let k = c.loop-i.invariant in
    record {
      room = length-set c.loop-i.words (c.args.from + c.loop-i.i) 0 ∙ k.room;
      bits = bit-cleared c.args.words.now c.loop-i.words c.args.from c.loop-i.i (omega (arith, k.room, c.requires, c.loop-i-test.true)) k.bits;
    }
