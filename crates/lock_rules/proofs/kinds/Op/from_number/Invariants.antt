use Rattle.std.proofs.Common.{◌≡◌, drop}
use Rattle.lock_rules.proofs.OpNumbers.{op_numbered}
use Rattle.lock_rules.proofs.kinds.Op.from_number.Given as goal

-- no operation so far has the number
abbrev pub invariant-loop-op : goal.invariant-loop-op
invariant-loop-op l = op_numbered l.op-items l.number ≡ op_numbered (drop l.op-index l.op-items) l.number
