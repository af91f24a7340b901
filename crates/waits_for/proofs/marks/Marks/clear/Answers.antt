use Rattle.std.proofs.Common.{◌≡◌, ℕ, List, ◌++◌, length, drop, take, ap, ◌∙◌, arith}
use Rattle.std.proofs.lemmas.List.{take_at}
use Rattle.waits_for.specs.inner.Bits.{has_bit}
use Rattle.waits_for.specs.Marks.{is_marked, marked_by}
use Rattle.waits_for.proofs.BitRows.{bit-all_cleared}
use Rattle.waits_for.proofs.MarkBits.{marked-none}
use Rattle.waits_for.proofs.marks.Marks.clear.Goals as goal

pub returns-clause-none : goal.returns-clause-none
returns-clause-none c a =
    let n = c.self.inside.sessions in
    let w = c.self.inside.words in
    let new = c.clear.new.words in
    let all = bit-all_cleared c.deref_mut.result.now new c.words_for.result (omega (arith, c.deref_mut.ensures.len, c.words_for.ensures, c.self.invariant)) c.clear.ensures in
    let whole : take w.len (new ++ drop (length new) w.items) ≡ new = take_at new (drop (length new) w.items) w.len (c.clear.auto.words ∙ c.deref_mut.ensures.len) in
    ap (λ (ws : List ℕ). is_marked (marked_by n (has_bit ws)) a) whole ∙ marked-none n new all a
