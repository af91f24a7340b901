use Rattle.std.proofs.Common.{◌≡◌, ℕ, suc, ◌+◌, ◌-◌, ◌≤◌, ◌++◌, ◌∷◌, [], Bool, true, false, List, take, sym, ap, ◌∙◌, arith}
use Rattle.std.specs.Prelude.{if◌then◌else◌}
use Rattle.combining.specs.inner.EndedList.{has_bit, marked}
use Rattle.combining.proofs.EndedList.{written-next}
use Rattle.combining.proofs.woken_set.write_marked.Goals as goal

one-more : (b : Bool) (n : ℕ) → (if b then n + 1 else n) ≤ n + 1
one-more true n = omega arith
one-more false n = omega arith

pub loop-left-preserved : goal.loop-left-preserved
loop-left-preserved c =
    let i = c.loop-left.invariant in
    let words = c.args.words.now in
    let below = c.loop-left.left - 1 in
    let so_far = take c.loop-left.written c.loop-left.list in
    let rest = marked words below in
    let all = marked words c.args.sessions in
    let some = c.loop-left-test.true in
    let left : c.loop-left.left ≡ suc below = omega (arith, some) in
    let told : so_far ++ (if has_bit words below then suc below ∷ rest else rest) ≡ all = ap (λ (n : ℕ). so_far ++ marked words n) (sym left) ∙ i.told in
    let is : c.has-is_told.result ≡ has_bit words below = c.has-is_told.ensures ∙ ap (λ (k : ℕ). has_bit words k) c.from.ensures in
    let e = c.write_if-written.ensures in
    record {
      told = ap (λ (l : List ℕ). l ++ rest) (e.list ∙ (ap (λ (b : Bool). if b then so_far ++ c.loop-left.left ∷ [] else so_far) is ∙ ap (λ (n : ℕ). if has_bit words below then so_far ++ n ∷ [] else so_far) left))
          ∙ written-next (has_bit words below) so_far rest all (suc below) told;
      few = omega (arith, e.count, one-more c.has-is_told.result c.loop-left.written, some, i.few);
      len = e.len ∙ i.len;
    }
