use Rattle.lock_rules.specs.Legal.{state_of}
use Rattle.lock_rules.proofs.Steps.{state-lawful}
use Rattle.lock_rules.proofs.LockCounts.{locks-bounded}
use Rattle.lock_rules.proofs.Refusals.{restart-needs}
use Rattle.lock_rules.proofs.Taken.{restart-all, restart-clears}
use Rattle.lock_rules.proofs.restart_laws.restarts_take_all_locks_and_keep_the_number.Goals as goal

pub returns-clause-locks : goal.returns-clause-locks
returns-clause-locks c = λ es. restart-all (state_of es) (state-lawful es)

pub returns-clause-abort : goal.returns-clause-abort
returns-clause-abort c = restart-clears

pub returns-clause-refused : goal.returns-clause-refused
returns-clause-refused c = λ es. restart-needs (state_of es) (locks-bounded es)
