use Rattle.lock_rules.proofs.Lawful.{lawful}
use Rattle.lock_rules.proofs.laws.transactions_are_apart.Goals as goal

pub returns-clause-owners : goal.returns-clause-owners
returns-clause-owners c = λ es. (lawful es).owners_open

pub returns-clause-numbers : goal.returns-clause-numbers
returns-clause-numbers c = λ es. (lawful es).numbers_distinct

pub returns-clause-counted : goal.returns-clause-counted
returns-clause-counted c = λ es. (lawful es).numbers_counted
