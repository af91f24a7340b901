use Rattle.std.proofs.Common.{◌≡◌, ℕ, ◌+◌, ◌-◌, ◌*◌, ◌<◌, inl, inr, ◌&&◌, ◌||◌, leb, ltb, eqb, true, false, refl, Bool, List, ◌++◌, length, drop, take, ap, ◌∙◌, sym, subst, arith}
use Rattle.std.specs.Simd.Lanes.{chunk}
use Rattle.std.proofs.lemmas.Bool.{cases_lt, cases_eq, eq-eqb, ne_eqb}
use Rattle.std.proofs.lemmas.Nat.{row_fits}
use Rattle.std.proofs.lemmas.List.{take_at}
use Rattle.waits_for.specs.Pairs.{Pairs, pairs_of, seen_by}
use Rattle.waits_for.specs.inner.Bits.{words_for, has_bit, marked_in, IsClearPast}
use Rattle.std.proofs.Math.Bool.{or-false}
use Rattle.waits_for.proofs.Places.{pairs_of-unite, pairs_of-row, pairs_of-within, bit-more, past-more, seen-sessions}
use Rattle.waits_for.proofs.matrix.Matrix.wait_as.Goals as goal

pub or_within-requires-clause-apart : goal.or_within-requires-clause-apart
or_within-requires-clause-apart c = rw c.row_start-from.ensures.start (rw c.row_start-other.ensures.start (rw c.words_for.ensures (elim (cases_lt c.args.u c.args.t) [
  | inl lt ↦ inr (omega (arith, row_fits c.args.u (words_for c.self.inside.sessions) c.args.t (words_for c.self.inside.sessions) lt (omega arith)))
  | inr le ↦ inl (omega (arith, row_fits c.args.t (words_for c.self.inside.sessions) c.args.u (words_for c.self.inside.sessions) (omega (arith, le, c.if-t-u.false)) (omega arith)))
])))

-- the row that is taken over, in the words of all
module _ (n : ℕ) (words new : List ℕ) (p : Pairs) (seen : seen_by n (marked_in n words) ≡ p) (t u : ℕ) (room : length words ≡ n * words_for n) (past : IsClearPast n words) (h : t < p.sessions) (k : u < p.sessions)
    (more : (j : ℕ) → has_bit new j ≡ (has_bit words j || ((leb (64 * (t * words_for n)) j && ltb j (64 * (t * words_for n + words_for n))) && has_bit (chunk (u * words_for n) (words_for n) words) (j - 64 * (t * words_for n))))) where
  -- The words of row u have the bits of the edges from u.
  bits : (b : ℕ) → has_bit (chunk (u * words_for n) (words_for n) words) b ≡ pairs_of p u b
  bits = pairs_of-row n words p seen u (rw (← seen-sessions n words p seen) at k) room past

  -- A bit of row u is at a position below the number of sessions.
  within : (b : ℕ) → has_bit (chunk (u * words_for n) (words_for n) words) b ≡ true → b < p.sessions
  within b is = (pairs_of-within p u b (sym (bits b) ∙ is)).1

  -- After row u is added to row t, t has the edges from u too.
  taken-pairs : (a b : ℕ) → pairs_of (seen_by n (marked_in n new)) a b ≡ (pairs_of p a b || (eqb a t && pairs_of p u b))
  taken-pairs a b = pairs_of-unite n words p seen new (chunk (u * words_for n) (words_for n) words) t h within more a b ∙ ap (λ (x : Bool). pairs_of p a b || (eqb a t && x)) (bits b)

  -- After row u is added to row t, no bit past the last session is set.
  taken-past : IsClearPast n new
  taken-past = past-more n words new t (has_bit (chunk (u * words_for n) (words_for n) words)) (subst (λ (m : ℕ). (b : ℕ) → has_bit (chunk (u * words_for n) (words_for n) words) b ≡ true → b < m) (sym (seen-sessions n words p seen)) within) (bit-more n words new (chunk (u * words_for n) (words_for n) words) t more) past

pub invariant_of-self : goal.invariant_of-self
invariant_of-self c =
    let n = c.self.inside.sessions in
    let w = c.self.inside.words in
    let new = c.or_within.new.words in
    let t = c.args.t in
    let u = c.args.u in
    let more : (j : ℕ) → has_bit new j ≡ (has_bit w.items j || ((leb (64 * (t * words_for n)) j && ltb j (64 * (t * words_for n + words_for n))) && has_bit (chunk (u * words_for n) (words_for n) w.items) (j - 64 * (t * words_for n)))) = λ j. rw (← c.deref_mut.ensures.value) (rw (← c.row_start-from.ensures.start) (rw (← c.row_start-other.ensures.start) (rw (← c.words_for.ensures) (c.or_within.ensures j)))) in
    let whole : take w.len (new ++ drop (length new) w.items) ≡ new = take_at new (drop (length new) w.items) w.len (c.or_within.auto.words ∙ c.deref_mut.ensures.len) in
    (ap length whole ∙ c.or_within.auto.words ∙ ap length c.deref_mut.ensures.value ∙ c.self.invariant.0, λ a b p q r. ap (λ (ws : List ℕ). has_bit ws (a * (64 * words_for n) + b)) whole ∙ taken-past n w.items new c.args.self.now c.self.view_is t u c.self.invariant.0 c.self.invariant.1 c.requires.t_below c.requires.u_below more a b p q r)

pub returns-clause-pairs : goal.returns-clause-pairs
returns-clause-pairs c a b =
    let n = c.self.inside.sessions in
    let w = c.self.inside.words in
    let new = c.or_within.new.words in
    let t = c.args.t in
    let u = c.args.u in
    let more : (j : ℕ) → has_bit new j ≡ (has_bit w.items j || ((leb (64 * (t * words_for n)) j && ltb j (64 * (t * words_for n + words_for n))) && has_bit (chunk (u * words_for n) (words_for n) w.items) (j - 64 * (t * words_for n)))) = λ j. rw (← c.deref_mut.ensures.value) (rw (← c.row_start-from.ensures.start) (rw (← c.row_start-other.ensures.start) (rw (← c.words_for.ensures) (c.or_within.ensures j)))) in
    let whole : take w.len (new ++ drop (length new) w.items) ≡ new = take_at new (drop (length new) w.items) w.len (c.or_within.auto.words ∙ c.deref_mut.ensures.len) in
    ap (λ (ws : List ℕ). pairs_of (seen_by n (marked_in n ws)) a b) whole ∙ taken-pairs n w.items new c.args.self.now c.self.view_is t u c.self.invariant.0 c.self.invariant.1 c.requires.t_below c.requires.u_below more a b

-- A session already waits for all that it waits for.
same : (p : Pairs) (t u : ℕ) → t ≡ u → (a b : ℕ) → pairs_of p a b ≡ (pairs_of p a b || (eqb a t && pairs_of p u b))
same p t u e a b = elim (cases_eq a t) [
  | inr ne ↦ sym (ap (λ (x : Bool). pairs_of p a b || (x && pairs_of p u b)) (ne_eqb a t ne) ∙ or-false (pairs_of p a b))
  | inl is ↦ ap (λ (x : ℕ). pairs_of p x b) (is ∙ e) ∙ sym (ap (λ (x : Bool). pairs_of p a b || (x && pairs_of p u b)) (eq-eqb a t is) ∙ ap (λ (x : ℕ). pairs_of p x b || pairs_of p u b) (is ∙ e) ∙ twice (pairs_of p u b))
]
  where
    twice : (x : Bool) → (x || x) ≡ x
    twice true = refl
    twice false = refl

pub returns-then-t-u-clause-pairs : goal.returns-then-t-u-clause-pairs
returns-then-t-u-clause-pairs c = same c.args.self.now c.args.t c.args.u c.if-t-u.true
