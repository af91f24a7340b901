use Rattle.std.proofs.Common.{◌≡◌, ℕ, true, ◌&&◌, not, eqb, ◌∙◌, sym, ap}
use Rattle.std.proofs.lemmas.Bool.{and_parts}
use Rattle.waits_for.specs.Pairs.{pairs_of}
use Rattle.waits_for.specs.inner.Bits.{words_for}
use Rattle.waits_for.proofs.Walks.{circle-before}
use Rattle.waits_for.proofs.rows.Rows.unset.Goals as goal

pub invariant_of-self : goal.invariant_of-self
invariant_of-self c =
    let old = pairs_of c.self.inside.matrix in
    let new = pairs_of c.unset.new.self in
    let was : (a b : ℕ) → new a b ≡ true → old a b ≡ true = λ a b h. (and_parts (old a b) (not (eqb a c.args.t && eqb b c.args.u)) (sym (c.unset.ensures.pairs a b) ∙ h)).0 in
    let k = c.self.invariant in
    let same = ap words_for (sym c.unset.ensures.sessions) in
    (k.0 ∙ same, λ a b h. k.1 a b (was a b h), k.2 ∙ sym c.unset.ensures.sessions, λ a is. circle-before old new was a c.self.inside.search.circle (k.3 a is))
