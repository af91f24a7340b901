use Rattle.lock_modes.proofs.Order.{order-tests, order-from, sup_least, sup_only}
use Rattle.lock_modes.proofs.Compatibility.{compatible-tests, compatible-from}
use Rattle.lock_modes.proofs.laws.tables_agree.Goals as goal

pub returns-clause-order : goal.returns-clause-order
returns-clause-order c low high = (order-tests, order-from low high)

pub returns-clause-compatible : goal.returns-clause-compatible
returns-clause-compatible c asked granted = (compatible-tests asked granted, compatible-from asked granted)

pub returns-clause-sup : goal.returns-clause-sup
returns-clause-sup c a b bound = (sup_only a b bound, sup_least a b bound)
