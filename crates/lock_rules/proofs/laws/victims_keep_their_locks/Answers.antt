use Rattle.lock_rules.specs.Legal.{state_of}
use Rattle.lock_rules.proofs.Steps.{state-lawful}
use Rattle.lock_rules.proofs.Doomed.{keep-theirs, doom-promotes}
use Rattle.lock_rules.proofs.laws.victims_keep_their_locks.Goals as goal

pub returns-clause-keep : goal.returns-clause-keep
returns-clause-keep c = λ es. keep-theirs (state_of es) (state-lawful es).sound.once

pub returns-clause-promotion : goal.returns-clause-promotion
returns-clause-promotion c = doom-promotes
