use Rattle.lock_laws.proofs.Bounds.{history-below}
use Rattle.lock_laws.proofs.Orders.{abort-ends, commit-ends, ends-count, ends-short, somebody-ends, ends-go_on}
use Rattle.lock_laws.proofs.ends.orders_end.Goals as goal

pub returns-clause-abort : goal.returns-clause-abort
returns-clause-abort c = abort-ends

pub returns-clause-commit : goal.returns-clause-commit
returns-clause-commit c = commit-ends

pub returns-clause-count : goal.returns-clause-count
returns-clause-count c = ends-count

pub returns-clause-short : goal.returns-clause-short
returns-clause-short c = ends-short

pub returns-clause-somebody : goal.returns-clause-somebody
returns-clause-somebody c = somebody-ends

pub returns-clause-go_on : goal.returns-clause-go_on
returns-clause-go_on c = ends-go_on

pub returns-clause-numbers : goal.returns-clause-numbers
returns-clause-numbers c = history-below
