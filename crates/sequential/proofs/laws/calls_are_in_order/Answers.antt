use Rattle.sequential.proofs.SessionCalls.{contains-entry, entry-contains, rising, calls_of-push}
use Rattle.sequential.proofs.laws.calls_are_in_order.Goals as goal

pub returns-clause-entries : goal.returns-clause-entries
returns-clause-entries g c = λ s es a. (contains-entry s es a, entry-contains s es a)

pub returns-clause-rising : goal.returns-clause-rising
returns-clause-rising g c = rising

pub returns-clause-one_more : goal.returns-clause-one_more
returns-clause-one_more g c = calls_of-push
