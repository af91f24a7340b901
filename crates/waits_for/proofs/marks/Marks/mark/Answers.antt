use Rattle.std.proofs.Common.{◌≡◌, ℕ, ◌<◌, ◌||◌, not, eqb, List, ◌++◌, length, drop, take, sym, ap, ◌∙◌, arith}
use Rattle.std.proofs.lemmas.List.{take_at}
use Rattle.waits_for.specs.inner.Bits.{has_bit}
use Rattle.waits_for.specs.Marks.{Marking, is_marked, marked_by}
use Rattle.waits_for.proofs.MarkBits.{marked-here, marked-more}
use Rattle.waits_for.proofs.marks.Marks.mark.Goals as goal

pub returns-clause-first : goal.returns-clause-first
returns-clause-first c =
    let n = c.self.inside.sessions in
    let w = c.self.inside.words in
    let t = c.args.t in
    let below : t < n = omega (arith, ap (λ (m : Marking). m.sessions) c.self.view_is, c.requires) in
    let had : c.has-had.result ≡ has_bit w.items t = c.has-had.ensures ∙ ap (λ (ws : List ℕ). has_bit ws t) c.deref.ensures.value in
    ap not (had ∙ (sym (marked-here n w.items t below) ∙ ap (λ (m : Marking). is_marked m t) c.self.view_is))

pub returns-clause-marks : goal.returns-clause-marks
returns-clause-marks c a =
    let n = c.self.inside.sessions in
    let w = c.self.inside.words in
    let new = c.set.new.words in
    let t = c.args.t in
    let below : t < n = omega (arith, ap (λ (m : Marking). m.sessions) c.self.view_is, c.requires) in
    let one : (j : ℕ) → has_bit new j ≡ (has_bit w.items j || eqb j t) = λ j. c.set.ensures j ∙ ap (λ (ws : List ℕ). has_bit ws j || eqb j t) c.deref_mut.ensures.value in
    let whole : take w.len (new ++ drop (length new) w.items) ≡ new = take_at new (drop (length new) w.items) w.len (c.set.auto.words ∙ c.deref_mut.ensures.len) in
    ap (λ (ws : List ℕ). is_marked (marked_by n (has_bit ws)) a) whole
    ∙ (marked-more n t w.items new below one a ∙ ap (λ (m : Marking). is_marked m a || eqb a t) c.self.view_is)
