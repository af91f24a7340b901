use Rattle.lock_rules.specs.Legal.{state_of}
use Rattle.lock_rules.proofs.Steps.{state-lawful}
use Rattle.lock_rules.proofs.Requests.{lock-holds, convert-holds}
use Rattle.lock_rules.proofs.laws.granted_locks_are_held.Goals as goal

pub returns-clause-lock : goal.returns-clause-lock
returns-clause-lock c = λ es. lock-holds (state_of es) (state-lawful es).sound.once

pub returns-clause-convert : goal.returns-clause-convert
returns-clause-convert c = λ es. convert-holds (state_of es) (state-lawful es).sound.once
