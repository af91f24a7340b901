use Rattle.std.proofs.Common.{arith}
use Rattle.waits_for.proofs.BitRows.{bit-without}
use Rattle.waits_for.proofs.bits.set_without.Goals as goal

pub returns : goal.returns
returns c = bit-without c.loop-k.row c.args.all.now c.args.other.now (omega (arith, c.requires.same, c.loop-k.auto.row)) (λ w lt. c.loop-k.invariant w (omega (arith, lt, c.loop-k.auto.row, c.loop-k-test.false)))
