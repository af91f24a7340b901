use Rattle.lock_modes.proofs.Codes.{covers-same}
use Rattle.lock_modes.proofs.Order.{order_decides}
use Rattle.lock_modes.proofs.Mode.covers.Goals as goal

pub returns-clause-relation : goal.returns-clause-relation
returns-clause-relation c = rw (c.code.ensures, c.code-2.ensures, c.code-3.ensures, covers-same) (order_decides c.args.other c.args.self)
