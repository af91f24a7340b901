use Rattle.lock_rules.proofs.Lawful.{lawful}
use Rattle.lock_rules.proofs.RefusalOrder.{refusals-rise, tests-give}
use Rattle.lock_rules.proofs.laws.tests_are_made_by_number.Goals as goal

pub returns-clause-rising : goal.returns-clause-rising
returns-clause-rising c = refusals-rise

pub returns-clause-tests : goal.returns-clause-tests
returns-clause-tests c = tests-give

pub returns-clause-lowest : goal.returns-clause-lowest
returns-clause-lowest c = λ es. (lawful es).refusals_lowest
