use Rattle.lock_rules.proofs.Lawful.{lawful}
use Rattle.lock_rules.proofs.laws.locks_stand_under_parents.Goals as goal

pub returns-clause-locks : goal.returns-clause-locks
returns-clause-locks c = λ es. (lawful es).locks_under_parents

pub returns-clause-requests : goal.returns-clause-requests
returns-clause-requests c = λ es. (lawful es).requests_under_parents
