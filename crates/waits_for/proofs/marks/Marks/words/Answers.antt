use Rattle.std.proofs.Common.{ℕ, ◌<◌, List, sym, ap, ◌∙◌, arith}
use Rattle.waits_for.specs.inner.Bits.{has_bit}
use Rattle.waits_for.specs.Marks.{Marking, is_marked}
use Rattle.waits_for.proofs.MarkBits.{marked-here}
use Rattle.waits_for.proofs.marks.Marks.words.Goals as goal

pub returns-clause-bits : goal.returns-clause-bits
returns-clause-bits c t lt =
    let n = c.self.inside.sessions in
    let w = c.self.inside.words in
    let below : t < n = omega (arith, ap (λ (m : Marking). m.sessions) c.self.view_is, lt) in
    ap (λ (ws : List ℕ). has_bit ws t) c.deref.ensures.value ∙ (sym (marked-here n w.items t below) ∙ ap (λ (m : Marking). is_marked m t) c.self.view_is)
