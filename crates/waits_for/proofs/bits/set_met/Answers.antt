use Rattle.std.proofs.Common.{◌≡◌, ℕ, ◌+◌, ◌-◌, ◌≤◌, not, ◌&&◌, ◌||◌, eqb, leb, Bool, true, false, List, length, get_or, take, sym, ◌∙◌, ap, arith}
use Rattle.std.proofs.lemmas.Bool.{eqb-true}
use Rattle.std.proofs.lemmas.List.{take_all}
use Rattle.mode_lanes.specs.Masks.{meets}
use Rattle.waits_for.specs.Pairs.{is_met}
use Rattle.waits_for.specs.inner.Bits.{has_bit}
use Rattle.waits_for.proofs.NumbersMet.{met-next, bits-next, mark-meets, own-cleared, own-set, own-bit}
use Rattle.waits_for.proofs.bits.set_met.Goals as goal

pub loop-at-preserved : goal.loop-at-preserved
loop-at-preserved c = record {
  room = c.set_chunk.auto.words ∙ c.loop-at.invariant.room;
  within = omega (arith, c.loop-at-test.true, c.loop-at.invariant.within);
  bits = c.set_chunk.ensures (has_bit c.args.words.now) c.loop-at.invariant.bits;
}

pub loop-index-preserved : goal.loop-index-preserved
loop-index-preserved c =
    let k = c.loop-index.invariant in
    let ns = c.args.numbers.now in
    let cs = c.args.codes.now in
    let i = c.loop-index.index in
    let mark : meets 1 c.mark_of-mark.result ≡ meets c.args.mask (get_or cs i 0) = mark-meets (meets c.args.mask (get_or cs i 0)) c.mark_of-mark.result c.mark_of-mark.ensures in
    record {
      room = c.set_marked.auto.words ∙ k.room;
      bits = λ j.
          let u = j - c.args.from in
          let one = eqb (get_or ns i 0) (u + 1) && meets c.args.mask (get_or cs i 0) in
          c.set_marked.ensures j
          ∙ (ap (λ (x : Bool). has_bit c.loop-index.words j || (leb c.args.from j && (eqb (get_or ns i 0) (u + 1) && x))) mark
          ∙ (ap (λ (x : Bool). x || (leb c.args.from j && one)) (k.bits j)
          ∙ (bits-next (has_bit c.args.words.now j) (leb c.args.from j) (is_met c.args.mask u (take i ns) (take i cs)) one
          ∙ ap (λ (x : Bool). has_bit c.args.words.now j || (leb c.args.from j && x)) (sym (met-next c.args.mask u ns cs i c.requires.a_code_each c.loop-index-test.true)))));
    }

-- A bit after the loops, over all numbers.
all-met : (was : Bool) (mask u i : ℕ) (b : Bool) (ns cs : List ℕ) → length cs ≡ length ns → length ns ≤ i → (was || (b && is_met mask u (take i ns) (take i cs))) ≡ (was || (b && is_met mask u ns cs))
all-met was mask u i b ns cs e le = ap (λ (l : List ℕ). was || (b && is_met mask u l (take i cs))) (take_all i ns le) ∙ ap (λ (l : List ℕ). was || (b && is_met mask u ns l)) (take_all i cs (omega (arith, e, le)))

pub returns-then-not-had : goal.returns-then-not-had
returns-then-not-had c j =
    let ws = c.args.words.now in
    let from = c.args.from in
    let own = c.args.own in
    let u = j - from in
    let met = is_met c.args.mask u c.args.numbers.now c.args.codes.now in
    let unset_before : eqb j (from + own) ≡ true → has_bit ws j ≡ false = λ e. ap (has_bit ws) (eqb-true j (from + own) e) ∙ (sym c.has-had.ensures ∙ c.if-not-had.true) in
    c.unset.ensures j
    ∙ (ap (λ (x : Bool). x && not (eqb j (from + own))) (c.loop-index.invariant.bits j ∙ all-met (has_bit ws j) c.args.mask u c.loop-index.index (leb from j) c.args.numbers.now c.args.codes.now c.requires.a_code_each c.loop-index-test.false)
    ∙ (own-cleared (has_bit ws j) (eqb j (from + own)) (leb from j) met unset_before
    ∙ ap (λ (x : Bool). has_bit ws j || x) (own-bit j from own met)))

pub returns-else-not-had : goal.returns-else-not-had
returns-else-not-had c j =
    let ws = c.args.words.now in
    let from = c.args.from in
    let own = c.args.own in
    let u = j - from in
    let met = is_met c.args.mask u c.args.numbers.now c.args.codes.now in
    let set_before : eqb j (from + own) ≡ true → has_bit ws j ≡ true = λ e. ap (has_bit ws) (eqb-true j (from + own) e) ∙ (sym c.has-had.ensures ∙ c.if-not-had.false) in
    c.loop-index.invariant.bits j
    ∙ (all-met (has_bit ws j) c.args.mask u c.loop-index.index (leb from j) c.args.numbers.now c.args.codes.now c.requires.a_code_each c.loop-index-test.false
    ∙ (own-set (has_bit ws j) (eqb j (from + own)) (leb from j) met set_before
    ∙ ap (λ (x : Bool). has_bit ws j || x) (own-bit j from own met)))
