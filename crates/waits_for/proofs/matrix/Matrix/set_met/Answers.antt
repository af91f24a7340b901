use Rattle.std.proofs.Common.{◌≡◌, ℕ, ◌+◌, ◌-◌, ◌*◌, ◌<◌, ◌≤◌, not, true, ◌&&◌, ◌||◌, eqb, leb, List, ◌++◌, get_or, length, drop, take, ap, ◌∙◌, sym, subst, arith}
use Rattle.std.proofs.lemmas.Bool.{and_parts}
use Rattle.std.proofs.lemmas.List.{take_at}
use Rattle.waits_for.specs.Pairs.{is_met, pairs_of, seen_by}
use Rattle.waits_for.specs.inner.Bits.{words_for, has_bit, marked_in}
use Rattle.waits_for.proofs.NumbersMet.{met-within}
use Rattle.waits_for.proofs.Places.{pairs_of-came, bit-came, past-more, seen-sessions}
use Rattle.waits_for.proofs.matrix.Matrix.set_met.Goals as goal

-- The sessions that are added are at positions below the number of sessions.
others-within : (t mask m : ℕ) (ns cs : List ℕ) → ((k : ℕ) → k < length ns → (1 ≤ get_or ns k 0) × (get_or ns k 0 ≤ m)) → (u : ℕ) → (not (eqb u t) && is_met mask u ns cs) ≡ true → u < m
others-within t mask m ns cs all u h = met-within mask m ns cs (λ k lt. (all k lt).1) u (and_parts (not (eqb u t)) (is_met mask u ns cs) h).1

pub invariant_of-self : goal.invariant_of-self
invariant_of-self c =
    let n = c.self.inside.sessions in
    let w = c.self.inside.words in
    let new = c.set_met.new.words in
    let t = c.args.t in
    let f = λ (u : ℕ). not (eqb u t) && is_met c.args.mask u c.args.numbers.now c.args.codes.now in
    let e = seen-sessions n w.items c.args.self.now c.self.view_is in
    let within : (u : ℕ) → f u ≡ true → u < n = subst (λ (m : ℕ). (u : ℕ) → f u ≡ true → u < m) (sym e) (others-within t c.args.mask c.args.self.now.sessions c.args.numbers.now c.args.codes.now c.requires.within) in
    let from : c.row_start-from.result * 64 ≡ t * (64 * words_for n) = omega (arith, c.row_start-from.ensures.start) in
    let came : (j : ℕ) → has_bit new j ≡ (has_bit w.items j || (leb (t * (64 * words_for n)) j && f (j - t * (64 * words_for n)))) = λ j. rw (← c.deref_mut.ensures.value) (rw (← from) (c.set_met.ensures j)) in
    let whole : take w.len (new ++ drop (length new) w.items) ≡ new = take_at new (drop (length new) w.items) w.len (c.set_met.auto.words ∙ c.deref_mut.ensures.len) in
    (ap length whole ∙ c.set_met.auto.words ∙ ap length c.deref_mut.ensures.value ∙ c.self.invariant.0, λ a b p q r. ap (λ (ws : List ℕ). has_bit ws (a * (64 * words_for n) + b)) whole ∙ past-more n w.items new t f within (bit-came n w.items new t f within came) c.self.invariant.1 a b p q r)

pub returns-clause-pairs : goal.returns-clause-pairs
returns-clause-pairs c a b =
    let n = c.self.inside.sessions in
    let w = c.self.inside.words in
    let new = c.set_met.new.words in
    let t = c.args.t in
    let f = λ (u : ℕ). not (eqb u t) && is_met c.args.mask u c.args.numbers.now c.args.codes.now in
    let from : c.row_start-from.result * 64 ≡ t * (64 * words_for n) = omega (arith, c.row_start-from.ensures.start) in
    let came : (j : ℕ) → has_bit new j ≡ (has_bit w.items j || (leb (t * (64 * words_for n)) j && f (j - t * (64 * words_for n)))) = λ j. rw (← c.deref_mut.ensures.value) (rw (← from) (c.set_met.ensures j)) in
    let whole : take w.len (new ++ drop (length new) w.items) ≡ new = take_at new (drop (length new) w.items) w.len (c.set_met.auto.words ∙ c.deref_mut.ensures.len) in
    ap (λ (ws : List ℕ). pairs_of (seen_by n (marked_in n ws)) a b) whole ∙ pairs_of-came n w.items c.args.self.now c.self.view_is new t f c.requires.t_below (others-within t c.args.mask c.args.self.now.sessions c.args.numbers.now c.args.codes.now c.requires.within) came a b
