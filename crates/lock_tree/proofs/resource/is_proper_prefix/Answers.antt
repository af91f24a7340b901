use Rattle.std.proofs.Common.{sym, ◌∙◌}
use Rattle.std.proofs.lemmas.Bool.Decides.{nat_tests}
use Rattle.std.proofs.Common.{arith}
use Rattle.lock_tree.proofs.Ancestors.{is_proper_prefix-short, is_proper_prefix-take}
use Rattle.lock_tree.proofs.resource.is_proper_prefix.Goals as goal

pub returns-then-count-others : goal.returns-then-count-others
returns-then-count-others c = c.eq.ensures ∙ sym (is_proper_prefix-take c.args.numbers.now c.args.others.now c.if-count-others.true)

pub returns-else-count-others : goal.returns-else-count-others
returns-else-count-others c = let e = is_proper_prefix-short c.args.numbers.now c.args.others.now c.if-count-others.false in grind (arith, nat_tests)
