use Rattle.std.proofs.Common.{◌≡◌, ◌++◌, ◌∷◌, [], ℕ, insert, remove, sym, ◌∙◌, ap, subst, arith}
use Rattle.lock_holders.proofs.Columns.{removed-again}
use Rattle.lock_holders.proofs.holder_columns.shift_down.Goals as goal

pub returns : goal.returns
returns g c =
    let i = c.args.index in
    let at : c.loop-at.at ≡ i = omega (arith, c.loop-at-test.false, c.loop-at.invariant.from) in
    let shifted = subst (λ (k : ℕ). insert c.loop-at.items k c.loop-at.carried ≡ c.args.items.now ++ c.args.last ∷ []) at c.loop-at.invariant.shifted in
    sym (removed-again c.loop-at.items i c.loop-at.carried (omega (arith, at, c.loop-at.invariant.within))) ∙ ap (λ xs. remove xs i) shifted
