use Rattle.std.proofs.Common.{◌≡◌, ℕ, ◌+◌, ◌*◌, ◌<◌, ◌||◌, eqb, List, ◌++◌, length, drop, take, ap, ◌∙◌, arith}
use Rattle.std.proofs.lemmas.List.{take_at}
use Rattle.waits_for.specs.Pairs.{pairs_of, seen_by}
use Rattle.waits_for.specs.inner.Bits.{words_for, has_bit, marked_in}
use Rattle.waits_for.proofs.Places.{pairs_of-set, bit-pair, one-within, past-more, seen-sessions}
use Rattle.waits_for.proofs.matrix.Matrix.set.Goals as goal

pub invariant_of-self : goal.invariant_of-self
invariant_of-self c =
    let n = c.self.inside.sessions in
    let w = c.self.inside.words in
    let new = c.set.new.words in
    let t = c.args.t in
    let u = c.args.u in
    let e = seen-sessions n w.items c.args.self.now c.self.view_is in
    let below : u < n = omega (arith, e, c.requires.u_below) in
    let place : c.row_start.result * 64 + u ≡ t * (64 * words_for n) + u = omega (arith, c.row_start.ensures.start) in
    let one : (j : ℕ) → has_bit new j ≡ (has_bit w.items j || eqb j (t * (64 * words_for n) + u)) = λ j. c.set.ensures j ∙ ap (λ (ws : List ℕ). has_bit ws j || eqb j (c.row_start.result * 64 + u)) c.deref_mut.ensures.value ∙ ap (λ (k : ℕ). has_bit w.items j || eqb j k) place in
    let whole : take w.len (new ++ drop (length new) w.items) ≡ new = take_at new (drop (length new) w.items) w.len (c.set.auto.words ∙ c.deref_mut.ensures.len) in
    (ap length whole ∙ c.set.auto.words ∙ ap length c.deref_mut.ensures.value ∙ c.self.invariant.0, λ a b p q r. ap (λ (ws : List ℕ). has_bit ws (a * (64 * words_for n) + b)) whole ∙ past-more n w.items new t (λ v. eqb v u) (one-within n u below) (bit-pair n w.items new t u below one) c.self.invariant.1 a b p q r)

pub returns-clause-pairs : goal.returns-clause-pairs
returns-clause-pairs c a b =
    let n = c.self.inside.sessions in
    let w = c.self.inside.words in
    let new = c.set.new.words in
    let t = c.args.t in
    let u = c.args.u in
    let place : c.row_start.result * 64 + u ≡ t * (64 * words_for n) + u = omega (arith, c.row_start.ensures.start) in
    let one : (j : ℕ) → has_bit new j ≡ (has_bit w.items j || eqb j (t * (64 * words_for n) + u)) = λ j. c.set.ensures j ∙ ap (λ (ws : List ℕ). has_bit ws j || eqb j (c.row_start.result * 64 + u)) c.deref_mut.ensures.value ∙ ap (λ (k : ℕ). has_bit w.items j || eqb j k) place in
    let whole : take w.len (new ++ drop (length new) w.items) ≡ new = take_at new (drop (length new) w.items) w.len (c.set.auto.words ∙ c.deref_mut.ensures.len) in
    ap (λ (ws : List ℕ). pairs_of (seen_by n (marked_in n ws)) a b) whole ∙ pairs_of-set n w.items c.args.self.now c.self.view_is new t u c.requires.t_below c.requires.u_below one a b
