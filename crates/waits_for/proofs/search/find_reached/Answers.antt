use Rattle.std.proofs.Common.{◌≡◌, ℕ, ◌<◌, true, false, ◌||◌, List, get_or, refl, eqb, length, ◌∙◌, arith}
use Rattle.std.specs.Prelude.{bit_or}
use Rattle.std.proofs.lemmas.Bool.{or_left, or_right, eq-eqb}
use Rattle.waits_for.specs.Pairs.{Pairs, pairs_of}
use Rattle.waits_for.specs.inner.Bits.{has_bit, unset_below}
use Rattle.waits_for.proofs.BitRows.{bit-or, bit-all_cleared, unset-lt}
use Rattle.waits_for.proofs.Walks.{IsSearch, search_begun, search_more, search_all, reaches-within}
use Rattle.waits_for.proofs.search.find_reached.Goals as goal

pub loop-v-init : goal.loop-v-init
loop-v-init c =
    let none = bit-all_cleared c.args.reached.now c.clear.new.words (length c.args.reached.now) (omega arith) c.clear.ensures in
    record {
      room = omega (arith, c.or_into.auto.row, c.clear.auto.words, c.requires.reached_room);
      room_too = omega (arith, c.clear-2.auto.words, c.requires.expanded_room);
      search = search_begun (pairs_of c.args.matrix.now) c.args.t c.row.result.now c.or_into.new.row c.clear-2.new.words c.row.ensures.bits
          (λ u. bit-or c.clear.new.words c.row.result.now c.or_into.new.row c.or_into.auto.row (omega (arith, c.clear.auto.words, c.requires.reached_room, c.row.ensures.room)) c.or_into.ensures.words u ∙ rw (none u) refl)
          (bit-all_cleared c.args.expanded.now c.clear-2.new.words (length c.args.expanded.now) (omega arith) c.clear-2.ensures);
    }

-- The session is reached and waiting, and was not expanded.
abbrev IsNew : List ℕ → List ℕ → List ℕ → ℕ → Type 0
IsNew reached waiting expanded v = (has_bit reached v ≡ true) × (has_bit waiting v ≡ true) × (has_bit expanded v ≡ false)

-- The next session to expand is at a position below the number of sessions.
new : (p : Pairs) (t v : ℕ) (waiting reached expanded : List ℕ) → IsSearch (pairs_of p) t reached expanded → IsNew reached waiting expanded v → v < p.sessions
new p t v waiting reached expanded s h = reaches-within p t v (s.sound v h.0)

-- After a session is expanded, fewer are left.
fewer : (p : Pairs) (t v : ℕ) (waiting reached expanded now : List ℕ) → IsSearch (pairs_of p) t reached expanded → IsNew reached waiting expanded v → ((u : ℕ) → has_bit now u ≡ (has_bit expanded u || eqb u v)) → unset_below p.sessions now < unset_below p.sessions expanded
fewer p t v waiting reached expanded now s h one =
    unset-lt p.sessions expanded now (λ u was. one u ∙ or_left (has_bit expanded u) (eqb u v) was) v (new p t v waiting reached expanded s h) h.2 (one v ∙ or_right (has_bit expanded v) (eqb v v) (eq-eqb v v refl))

pub row-requires-in-Some : goal.row-requires-in-Some
row-requires-in-Some c = new c.args.matrix.now c.args.t c.in-Some.v c.args.waiting.now c.loop-v.reached c.loop-v.expanded c.loop-v.invariant.search c.in-Some.ensures.some

pub loop-v-smaller : goal.loop-v-smaller
loop-v-smaller c = fewer c.args.matrix.now c.args.t c.in-Some.v c.args.waiting.now c.loop-v.reached c.loop-v.expanded c.set.new.words c.loop-v.invariant.search c.in-Some.ensures.some c.set.ensures

-- After the row of the session is added, the search goes on.
more : (p : Pairs) (t v : ℕ) (row reached after expanded now : List ℕ) → IsSearch (pairs_of p) t reached expanded → has_bit reached v ≡ true → ((u : ℕ) → has_bit row u ≡ pairs_of p v u) → length reached ≡ length row → length after ≡ length reached → ((k : ℕ) → k < length after → get_or after k 0 ≡ bit_or (get_or reached k 0) (get_or row k 0)) → ((u : ℕ) → has_bit now u ≡ (has_bit expanded u || eqb u v)) → IsSearch (pairs_of p) t after now
more p t v row reached after expanded now s here bits same room words one = search_more (pairs_of p) t v row reached after expanded now s here bits (bit-or reached row after room same words) one

pub loop-v-preserved : goal.loop-v-preserved
loop-v-preserved c =
    let h = c.loop-v.invariant in
    record {
      room = omega (arith, c.or_into-in-Some.auto.row, h.room);
      room_too = omega (arith, c.set.auto.words, h.room_too);
      search = more c.args.matrix.now c.args.t c.in-Some.v c.row-in-Some.result.now c.loop-v.reached c.or_into-in-Some.new.row c.loop-v.expanded c.set.new.words h.search c.in-Some.ensures.some.0 c.row-in-Some.ensures.bits (omega (arith, h.room, c.row-in-Some.ensures.room)) c.or_into-in-Some.auto.row c.or_into-in-Some.ensures.words c.set.ensures;
    }

pub returns : goal.returns
returns c = record { reached = search_all (pairs_of c.args.matrix.now) c.args.t c.args.waiting.now c.loop-v.reached c.loop-v.expanded c.requires.waiting c.loop-v.invariant.search c.in_default.ensures.none }
