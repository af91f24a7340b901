use Rattle.lock_rules.proofs.Histories.{some-history, one-history}
use Rattle.lock_rules.proofs.laws.histories_are_determined_by_calls.Goals as goal

pub returns-clause-some : goal.returns-clause-some
returns-clause-some c = some-history

pub returns-clause-one : goal.returns-clause-one
returns-clause-one c = one-history
