use Rattle.lock_rules.proofs.OpNumbers.{passed_over}
use Rattle.lock_rules.proofs.kinds.Op.from_number.Goals as goal

pub loop-op-preserved : goal.loop-op-preserved
loop-op-preserved c = passed_over _ c.loop-op.op-index _ c.args.number c.number.result _ c.loop-op-test.true c.number.ensures c.if-number.false c.loop-op.invariant
