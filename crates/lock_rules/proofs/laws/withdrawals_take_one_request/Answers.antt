use Rattle.lock_rules.specs.Legal.{state_of}
use Rattle.lock_rules.proofs.Steps.{state-lawful}
use Rattle.lock_rules.proofs.Doomed.{withdraw-one}
use Rattle.lock_rules.proofs.laws.withdrawals_take_one_request.Goals as goal

pub returns : goal.returns
returns c = λ es. withdraw-one (state_of es) (state-lawful es).sound.once
