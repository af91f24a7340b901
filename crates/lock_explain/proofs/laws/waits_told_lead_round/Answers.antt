use Rattle.lock_explain.proofs.WaitsTold.{waits-told}
use Rattle.lock_explain.proofs.laws.waits_told_lead_round.Goals as goal

pub returns : goal.returns
returns c = λ n session history call e within some most told. waits-told n session history call within some most e told
