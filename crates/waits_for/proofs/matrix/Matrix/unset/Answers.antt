use Rattle.std.proofs.Common.{◌≡◌, ℕ, ◌+◌, ◌*◌, ◌<◌, ◌&&◌, not, eqb, List, ◌++◌, length, drop, take, ap, ◌∙◌, arith}
use Rattle.std.proofs.lemmas.List.{take_at}
use Rattle.waits_for.specs.Pairs.{pairs_of, seen_by}
use Rattle.waits_for.specs.inner.Bits.{words_for, has_bit, marked_in}
use Rattle.waits_for.proofs.Places.{pairs_of-unset, past-unset, seen-sessions}
use Rattle.waits_for.proofs.matrix.Matrix.unset.Goals as goal

pub invariant_of-self : goal.invariant_of-self
invariant_of-self c =
    let n = c.self.inside.sessions in
    let w = c.self.inside.words in
    let new = c.unset.new.words in
    let t = c.args.t in
    let u = c.args.u in
    let e = seen-sessions n w.items c.args.self.now c.self.view_is in
    let below : u < n = omega (arith, e, c.requires.u_below) in
    let place : c.row_start.result * 64 + u ≡ t * (64 * words_for n) + u = omega (arith, c.row_start.ensures.start) in
    let one : (j : ℕ) → has_bit new j ≡ (has_bit w.items j && not (eqb j (t * (64 * words_for n) + u))) = λ j. c.unset.ensures j ∙ ap (λ (ws : List ℕ). has_bit ws j && not (eqb j (c.row_start.result * 64 + u))) c.deref_mut.ensures.value ∙ ap (λ (k : ℕ). has_bit w.items j && not (eqb j k)) place in
    let whole : take w.len (new ++ drop (length new) w.items) ≡ new = take_at new (drop (length new) w.items) w.len (c.unset.auto.words ∙ c.deref_mut.ensures.len) in
    (ap length whole ∙ c.unset.auto.words ∙ ap length c.deref_mut.ensures.value ∙ c.self.invariant.0, λ a b p q r. ap (λ (ws : List ℕ). has_bit ws (a * (64 * words_for n) + b)) whole ∙ past-unset n w.items new t u below one c.self.invariant.1 a b p q r)

pub returns-clause-pairs : goal.returns-clause-pairs
returns-clause-pairs c a b =
    let n = c.self.inside.sessions in
    let w = c.self.inside.words in
    let new = c.unset.new.words in
    let t = c.args.t in
    let u = c.args.u in
    let place : c.row_start.result * 64 + u ≡ t * (64 * words_for n) + u = omega (arith, c.row_start.ensures.start) in
    let one : (j : ℕ) → has_bit new j ≡ (has_bit w.items j && not (eqb j (t * (64 * words_for n) + u))) = λ j. c.unset.ensures j ∙ ap (λ (ws : List ℕ). has_bit ws j && not (eqb j (c.row_start.result * 64 + u))) c.deref_mut.ensures.value ∙ ap (λ (k : ℕ). has_bit w.items j && not (eqb j k)) place in
    let whole : take w.len (new ++ drop (length new) w.items) ≡ new = take_at new (drop (length new) w.items) w.len (c.unset.auto.words ∙ c.deref_mut.ensures.len) in
    ap (λ (ws : List ℕ). pairs_of (seen_by n (marked_in n ws)) a b) whole ∙ pairs_of-unset n w.items c.args.self.now c.self.view_is new t u c.requires.u_below one a b
