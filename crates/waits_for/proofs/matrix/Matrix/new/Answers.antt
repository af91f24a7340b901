use Rattle.waits_for.proofs.Places.{pairs_of-none}
use Rattle.waits_for.proofs.matrix.Matrix.new.Goals as goal

pub returns-clause-no_pairs : goal.returns-clause-no_pairs
returns-clause-no_pairs c = pairs_of-none c.args.sessions _ c.in_ok-words.words.items (c.in_ok-words.ensures.items_if_clones_equal (λ y e. e))
