use Rattle.std.proofs.Common.{get_or, refl, arith}
use Rattle.std.proofs.lemmas.Bool.{le-leb, lt-leb}
use Rattle.waits_for.proofs.choice.younger_of.Goals as goal

pub returns-in-Some : goal.returns-in-Some
returns-in-Some c = rw c.in-Some.is (rw (le-leb (get_or c.args.ages.now c.args.u 0) (get_or c.args.ages.now c.in-Some.v 0) (omega arith)) refl)

pub returns-in_default : goal.returns-in_default
returns-in_default c = rw c.in-Some.is (rw (lt-leb (get_or c.args.ages.now c.args.u 0) (get_or c.args.ages.now c.in-Some.v 0) (omega arith)) refl)
