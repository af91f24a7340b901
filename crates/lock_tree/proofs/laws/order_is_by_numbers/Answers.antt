use Rattle.std.proofs.Common.{arith, ◌-◌, length}
use Rattle.lock_tree.specs.declared.levels.TheConstants.{LEVELS}
use Rattle.lock_tree.proofs.PaddedOrder.{padded_order}
use Rattle.lock_tree.proofs.laws.order_is_by_numbers.Goals as goal

pub returns : goal.returns
returns c a b ha hb = padded_order (LEVELS - length a) (LEVELS - length b) a b (omega (arith, ha.few, hb.few))
