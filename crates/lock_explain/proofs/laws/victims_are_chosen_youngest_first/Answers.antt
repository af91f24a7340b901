use Rattle.lock_explain.proofs.ChosenVictims.{chosen}
use Rattle.lock_explain.proofs.laws.victims_are_chosen_youngest_first.Goals as goal

pub returns : goal.returns
returns c = λ n session history call q victims within some most begins new. chosen n session history call q victims within some most begins new
