use Rattle.lock_tree.proofs.Ancestors.{ancestor_tests, parent_iff, longest_parent, above_parent}
use Rattle.lock_tree.proofs.laws.parents_are_the_longest_ancestors.Goals as goal

pub returns : goal.returns
returns c = record { test = ancestor_tests; some = parent_iff; longest = longest_parent; above = above_parent }
