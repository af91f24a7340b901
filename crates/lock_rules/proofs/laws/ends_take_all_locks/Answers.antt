use Rattle.lock_rules.specs.Legal.{state_of}
use Rattle.lock_rules.proofs.Steps.{state-lawful}
use Rattle.lock_rules.proofs.Taken.{commit-all, abort-all}
use Rattle.lock_rules.proofs.laws.ends_take_all_locks.Goals as goal

pub returns-clause-commit : goal.returns-clause-commit
returns-clause-commit c = λ es. commit-all (state_of es) (state-lawful es)

pub returns-clause-abort : goal.returns-clause-abort
returns-clause-abort c = λ es. abort-all (state_of es) (state-lawful es)
