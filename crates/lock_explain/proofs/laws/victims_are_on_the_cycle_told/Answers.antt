use Rattle.lock_explain.proofs.VictimsTold.{victims-told}
use Rattle.lock_explain.proofs.laws.victims_are_on_the_cycle_told.Goals as goal

pub returns : goal.returns
returns c = λ n session history call e within some most told. victims-told n session history call within some most e told
