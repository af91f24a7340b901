use Rattle.std.proofs.Common.{◌≡◌, ℕ, ◌+◌, ◌*◌, ◌&&◌, not, leb, ltb, List, ◌++◌, length, drop, take, ap, ◌∙◌}
use Rattle.std.proofs.lemmas.List.{take_at}
use Rattle.waits_for.specs.Pairs.{pairs_of, seen_by}
use Rattle.waits_for.specs.inner.Bits.{words_for, has_bit, marked_in}
use Rattle.waits_for.proofs.Places.{pairs_of-clear}
use Rattle.waits_for.proofs.matrix.Matrix.clear_row.Goals as goal

pub returns-clause-pairs : goal.returns-clause-pairs
returns-clause-pairs c a b =
    let n = c.self.inside.sessions in
    let w = c.self.inside.words in
    let new = c.clear.new.words in
    let t = c.args.t in
    let gone : (j : ℕ) → has_bit new j ≡ (has_bit w.items j && not (leb (64 * (t * words_for n)) j && ltb j (64 * (t * words_for n + words_for n)))) = λ j. rw (← c.deref_mut.ensures.value) (rw (← c.row_start-from.ensures.start) (rw (← c.words_for.ensures) (c.clear.ensures j))) in
    let whole : take w.len (new ++ drop (length new) w.items) ≡ new = take_at new (drop (length new) w.items) w.len (c.clear.auto.words ∙ c.deref_mut.ensures.len) in
    ap (λ (ws : List ℕ). pairs_of (seen_by n (marked_in n ws)) a b) whole ∙ pairs_of-clear n w.items c.args.self.now c.self.view_is new t gone a b
