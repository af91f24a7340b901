use Rattle.std.proofs.Common.{◌≡◌, ℕ, ◌+◌, ◌*◌, ◌/◌, ◌%◌, ◌≤◌, ◌&&◌, eqb, List, Option, get_or, length, ◌∙◌, ap, arith}
use Rattle.std.specs.Prelude.{nat_lt}
use Rattle.std.specs.Int.{bit_at}
use Rattle.std.proofs.lemmas.Bool.{and_parts, lt-ltb, ltb-true}
use Rattle.waits_for.specs.inner.Bits.{has_bit, words_for}
use Rattle.waits_for.specs.inner.Search.{IsBestBelow, IsTestOf}
use Rattle.waits_for.proofs.Youngest.{best-within}
use Rattle.waits_for.proofs.choice.youngest_in.Goals as goal

-- The bits of word w of a set, for the positions below n.
test-of : (set : List ℕ) (n w : ℕ) → IsTestOf (λ u. nat_lt u n && has_bit set u) (get_or set w 0) (w * 64) n
test-of set n w i lt =
    let q : (w * 64 + i) / 64 ≡ w = omega (arith, lt) in
    let r : (w * 64 + i) % 64 ≡ i = omega (arith, lt) in
    ap (λ (x : ℕ). nat_lt (w * 64 + i) n && eqb (bit_at (get_or set x 0) ((w * 64 + i) % 64)) 1) q ∙ ap (λ (x : ℕ). nat_lt (w * 64 + i) n && eqb (bit_at (get_or set w 0) x) 1) r

-- One more word.
next : (set ages : List ℕ) (w m : ℕ) (best : Option ℕ) → m ≡ w * 64 + 64 → IsBestBelow (λ u. nat_lt u (length ages) && has_bit set u) ages (w * 64 + 64) best → IsBestBelow (λ u. nat_lt u (length ages) && has_bit set u) ages m best
next set ages w m best e h = rw e h

pub loop-w-preserved : goal.loop-w-preserved
loop-w-preserved c =
    let set = c.args.set.now in
    let ages = c.args.ages.now in
    record {
      below = c.youngest_in_word-best.ensures.below;
      so_far = next set ages c.loop-w.w ((c.loop-w.w + 1) * 64) c.youngest_in_word-best.result (omega arith) (c.youngest_in_word-best.ensures.best (λ u. nat_lt u (length ages) && has_bit set u) (test-of set (length ages) c.loop-w.w) c.loop-w.invariant.so_far);
    }

-- The best of all words is the best of the positions that have an age.
whole : (set ages : List ℕ) (w : ℕ) (best : Option ℕ) → words_for (length ages) ≤ w → IsBestBelow (λ u. nat_lt u (length ages) && has_bit set u) ages (w * 64) best → IsBestBelow (has_bit set) ages (length ages) best
whole set ages w best room h = best-within (λ u. nat_lt u (length ages) && has_bit set u) (has_bit set) ages (length ages) (w * 64) (omega (arith, room))
    (λ u lt. ap (λ b. b && has_bit set u) (lt-ltb u (length ages) lt)) (λ u p. ltb-true u (length ages) (and_parts (nat_lt u (length ages)) (has_bit set u) p).0) best h

pub returns : goal.returns
returns c = whole c.args.set.now c.args.ages.now c.loop-w.w c.loop-w.best (omega (arith, c.loop-w-test.false)) c.loop-w.invariant.so_far
