use Rattle.std.proofs.Common.{sym, arith}
use Rattle.mode_lanes.proofs.Unions.{union-item}
use Rattle.mode_lanes.proofs.columns.union_of_tail.Goals as goal

pub loop-byte-preserved : goal.loop-byte-preserved
loop-byte-preserved c = let i = c.loop-byte.byte-index in rw c.loop-byte.invariant (sym (union-item c.args.tail.now i (omega arith)))
