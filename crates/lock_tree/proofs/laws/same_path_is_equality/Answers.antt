use Rattle.std.proofs.Common.{ℕ, ◌-◌, ap, length}
use Rattle.lock_tree.specs.declared.levels.TheConstants.{LEVELS}
use Rattle.lock_tree.proofs.PaddedEquality.{padded_equality}
use Rattle.lock_tree.proofs.laws.same_path_is_equality.Goals as goal

pub returns-clause-code : goal.returns-clause-code
returns-clause-code c a b = padded_equality (LEVELS - length a) (LEVELS - length b) a b (ap (λ (n : ℕ). LEVELS - n))
