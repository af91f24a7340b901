use Rattle.std.proofs.Common.{◌≡◌, ◌+◌, ◌-◌, ◌<◌, ℕ, ◌&&◌, ◌||◌, eqb, leb, Bool, cond, List, get_or, length, take, drop, sym, ◌∙◌, ap, arith}
use Rattle.std.proofs.lemmas.List.{get_or-drop, get_or-take}
use Rattle.mode_lanes.specs.Masks.{meets}
use Rattle.waits_for.specs.Pairs.{is_met}
use Rattle.waits_for.specs.inner.Bits.{has_bit}
use Rattle.waits_for.proofs.NumbersMet.{met-next, bits-next, mark-meets, mark-small}
use Rattle.waits_for.proofs.bits.set_chunk.Goals as goal

-- The mark of a number in the chunk is 1 or 0.
mark-is : (cs marks : List ℕ) (at mask k : ℕ) → k < 16 → k < length marks → ((i : ℕ) → i < length marks → get_or marks i 0 ≡ cond (meets mask (get_or (take (at + 16 - at) (drop at cs)) i 0)) 1 0)
    → get_or marks k 0 ≡ cond (meets mask (get_or cs (at + k) 0)) 1 0
mark-is cs marks at mask k lt within each = each k within ∙ ap (λ (x : ℕ). cond (meets mask x) 1 0) (get_or-take (at + 16 - at) (drop at cs) k 0 (omega (arith, lt)) ∙ get_or-drop at cs k 0)

pub set_marked-requires-clause-zero_or_one : goal.set_marked-requires-clause-zero_or_one
set_marked-requires-clause-zero_or_one c =
    let k = c.loop-k.k in
    mark-small (meets c.args.mask (get_or c.args.codes.now (c.args.at + k) 0)) (get_or c.mark_meets.new.marks k 0) (mark-is c.args.codes.now c.mark_meets.new.marks c.args.at c.args.mask k c.loop-k-test.true (omega (arith, c.loop-k-test.true, c.mark_meets.auto.marks)) c.mark_meets.ensures)

pub loop-k-preserved : goal.loop-k-preserved
loop-k-preserved c =
    let inv = c.loop-k.invariant in
    let ns = c.args.numbers.now in
    let cs = c.args.codes.now in
    let k = c.loop-k.k in
    let i = c.args.at + k in
    let within : i < length ns = omega (arith, c.loop-k-test.true, c.requires.chunk) in
    let mark : meets 1 (get_or c.mark_meets.new.marks k 0) ≡ meets c.args.mask (get_or cs i 0) = mark-meets (meets c.args.mask (get_or cs i 0)) (get_or c.mark_meets.new.marks k 0) (mark-is cs c.mark_meets.new.marks c.args.at c.args.mask k c.loop-k-test.true (omega (arith, c.loop-k-test.true, c.mark_meets.auto.marks)) c.mark_meets.ensures) in
    record {
      room = c.set_marked.auto.words ∙ inv.room;
      bits = λ was h j.
          let u = j - c.args.from in
          let one = eqb (get_or ns i 0) (u + 1) && meets c.args.mask (get_or cs i 0) in
          let next : c.args.at + (k + 1) ≡ i + 1 = omega arith in
          c.set_marked.ensures j
          ∙ (ap (λ (x : Bool). has_bit c.loop-k.words j || (leb c.args.from j && (eqb (get_or ns i 0) (u + 1) && x))) mark
          ∙ (ap (λ (x : Bool). x || (leb c.args.from j && one)) (inv.bits was h j)
          ∙ (bits-next (was j) (leb c.args.from j) (is_met c.args.mask u (take i ns) (take i cs)) one
          ∙ (ap (λ (x : Bool). was j || (leb c.args.from j && x)) (sym (met-next c.args.mask u ns cs i c.requires.a_code_each within))
          ∙ ap (λ (n : ℕ). was j || (leb c.args.from j && is_met c.args.mask u (take n ns) (take n cs))) (sym next)))));
    }
