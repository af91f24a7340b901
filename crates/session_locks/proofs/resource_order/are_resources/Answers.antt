use Rattle.std.proofs.Common.{◌≡◌, ℕ, get_or, inl, inr, ◌∙◌, ap, subst, arith}
use Rattle.std.proofs.lemmas.Bool.{cases_lt}
use Rattle.std.proofs.lemmas.List.{get_or_default}
use Rattle.lock_tree.specs.Paths.{IsResource}
use Rattle.session_locks.proofs.resource_order.are_resources.Goals as goal

pub loop-index-preserved : goal.loop-index-preserved
loop-index-preserved c k d below within = elim (cases_lt k c.loop-index.index) [
  | inl h ↦ c.loop-index.invariant k d h within
  | inr h ↦ (let here : c.loop-index.index ≡ k = omega (arith, below, h) in
      let r = c.index-list-index.result in
      subst IsResource (c.index-list-index.is ∙ (ap (λ (i : ℕ). get_or c.args.list.now i r) here ∙ get_or_default c.args.list.now k r d within)) c.numbers-numbers.ensures.resource)
]

pub returns : goal.returns
returns c k d within = c.loop-index.invariant k d (omega (arith, within, c.loop-index-test.false)) within
