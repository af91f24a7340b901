use Rattle.std.proofs.Common.{◌≡◌, ℕ, suc, ◌-◌, ◌∙◌, take, ap, arith}
use Rattle.lock_tree.specs.Paths.{parent_of}
use Rattle.lock_tree.proofs.Parents.{parent_of-set}
use Rattle.lock_tree.proofs.resource.Resource.parent.Goals as goal

pub returns-clause-value : goal.returns-clause-value
returns-clause-value c =
    let old = c.self.inside in
    let last : suc (old.level - 1) ≡ old.level = omega (arith, c.self.invariant.some) in
    parent_of-set (old.level - 1) old.numbers 0 (omega (arith, c.self.invariant.some, c.self.invariant.few, c.self.invariant.full))
    ∙ ap (λ (n : ℕ). parent_of (take n old.numbers)) last ∙ ap parent_of c.self.view_is
