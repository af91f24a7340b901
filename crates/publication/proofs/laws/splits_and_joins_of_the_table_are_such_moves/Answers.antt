use Rattle.std.proofs.Common.{inl, inr, refl}
use Rattle.publication.specs.StepKinds.{copy_of, front_copy_of}
use Rattle.publication.proofs.Present.{makes-one, copies, joins-one, gathers-one}
use Rattle.publication.proofs.laws.splits_and_joins_of_the_table_are_such_moves.Goals as goal

pub returns-clause-makes : goal.returns-clause-makes
returns-clause-makes g c s id v r me q = makes-one s id v r me q

pub returns-clause-copies : goal.returns-clause-copies
returns-clause-copies g c s id v me = copies s id v (copy_of v) me (inl refl)

pub returns-clause-fronts : goal.returns-clause-fronts
returns-clause-fronts g c s id v me = copies s id v (front_copy_of v) me (inr refl)

pub returns-clause-joins : goal.returns-clause-joins
returns-clause-joins g c s id other v w r me apart_from with q = joins-one s id other v w r me apart_from with q

pub returns-clause-gathers : goal.returns-clause-gathers
returns-clause-gathers g c s id other v w r me apart_from with q = gathers-one s id other v w r me apart_from with q
