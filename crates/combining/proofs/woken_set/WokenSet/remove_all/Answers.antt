use Rattle.std.proofs.Common.{◌≡◌, ℕ, ◌∙◌, [], List, length, sym, ap, arith}
use Rattle.combining.specs.Woken.{WokenView}
use Rattle.combining.specs.inner.EndedList.{marked}
use Rattle.combining.proofs.EndedList.{marked-none}
use Rattle.combining.proofs.woken_set.WokenSet.remove_all.Goals as goal

pub invariant_of-self : goal.invariant_of-self
invariant_of-self c =
    let k = c.self.invariant in
    let n = c.self.inside.room in
    let none : marked c.clear.new.words.items n ≡ [] = ap (λ (l : List ℕ). marked l n) c.clear.ensures.items ∙ marked-none c.self.inside.words.len n in
    record {
      bits = omega (arith, k.bits, c.clear.ensures.len);
      small = k.small;
      count = ap (λ (l : List ℕ). length l) (sym none);
    }

pub returns : goal.returns
returns c =
    let n = c.self.inside.room in
    let none : marked c.clear.new.words.items n ≡ [] = ap (λ (l : List ℕ). marked l n) c.clear.ensures.items ∙ marked-none c.self.inside.words.len n in
    ap (λ (l : List ℕ). record { room = n; list = l }) none ∙ ap (λ (v : WokenView). record v { list = [] }) c.self.view_is
