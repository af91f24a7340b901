use Rattle.lock_modes.proofs.Order.{order-codes}
use Rattle.lock_modes.proofs.laws.order_extends.Goals as goal

pub returns-clause-extends : goal.returns-clause-extends
returns-clause-extends c = order-codes
