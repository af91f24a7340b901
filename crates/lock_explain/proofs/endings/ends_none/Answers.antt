use Rattle.std.proofs.Common.{◌≡◌, ℕ, List, [], Contains, sym, ◌∙◌, subst, arith}
use Rattle.std.proofs.lemmas.Bool.{eqb-true}
use Rattle.std.proofs.lemmas.List.{nil_from_length}
use Rattle.lock_explain.proofs.endings.ends_none.Goals as goal

pub returns : goal.returns
returns c = λ yes u h.
    let empty : c.ended.result.now ≡ [] = nil_from_length c.ended.result.now (eqb-true _ 0 (sym c.is_empty.ensures ∙ yes)) in
    let there = subst (λ (us : List ℕ). Contains us u) empty ((c.ended.ensures.ended u).1 h) in
    let n = there.1 in
    absurd (omega (arith, n))
