use Rattle.std.proofs.Common.{◌≡◌, ◌⊎◌, ℕ, ◌-◌, ◌↔◌, ◌∙◌, List, true, false, sym, ap, subst, arith}
use Rattle.std.specs.List.{Contains}
use Rattle.combining.specs.Woken.{WokenView}
use Rattle.combining.specs.inner.EndedList.{has_bit, marked}
use Rattle.combining.proofs.EndedList.{marked-already, marked-with, marked-longer, marked-few}
use Rattle.combining.proofs.woken_set.WokenSet.add.Goals as goal

pub returns-then-has-clause-members : goal.returns-then-has-clause-members
returns-then-has-clause-members c u =
    let words = c.self.inside.words.items in
    let at = c.from-place.result - 1 in
    let s = c.args.session in
    let room = ap (λ (v : WokenView). v.room) c.self.view_is in
    let is : has_bit words at ≡ true = ap (λ (l : List ℕ). has_bit l at) (sym c.deref.ensures.value) ∙ (sym c.has.ensures ∙ c.if-has.true) in
    subst (λ (l : List ℕ). Contains l u ↔ (Contains l u ⊎ (u ≡ s))) (ap (λ (v : WokenView). v.list) c.self.view_is)
    (marked-already words c.self.inside.room at s (ap (λ (w : ℕ). w - 1) c.from-place.ensures) c.requires.some (omega (arith, room, c.requires.within)) is u)

pub overflow_add-self : goal.overflow_add-self
overflow_add-self c =
    let k = c.self.invariant in
    let words = c.self.inside.words.items in
    let new = c.set.new.words.items in
    let n = c.self.inside.room in
    let at = c.from-place.result - 1 in
    let room = ap (λ (v : WokenView). v.room) c.self.view_is in
    let off : has_bit words at ≡ false = ap (λ (l : List ℕ). has_bit l at) (sym c.deref.ensures.value) ∙ (sym c.has.ensures ∙ c.if-has.false) in
    let longer = marked-longer words new at c.set.ensures.bits n (omega (arith, room, c.requires.within, c.requires.some, c.from-place.ensures)) off in
    omega (arith, longer, marked-few new n, k.small, k.count)

pub invariant_of-self : goal.invariant_of-self
invariant_of-self c =
    let k = c.self.invariant in
    let words = c.self.inside.words.items in
    let new = c.set.new.words.items in
    let n = c.self.inside.room in
    let at = c.from-place.result - 1 in
    let room = ap (λ (v : WokenView). v.room) c.self.view_is in
    let off : has_bit words at ≡ false = ap (λ (l : List ℕ). has_bit l at) (sym c.deref.ensures.value) ∙ (sym c.has.ensures ∙ c.if-has.false) in
    let longer = marked-longer words new at c.set.ensures.bits n (omega (arith, room, c.requires.within, c.requires.some, c.from-place.ensures)) off in
    record {
      bits = omega (arith, k.bits, c.set.ensures.len);
      small = k.small;
      count = omega (arith, longer, k.count);
    }

pub returns-clause-members : goal.returns-clause-members
returns-clause-members c u =
    let words = c.self.inside.words.items in
    let new = c.set.new.words.items in
    let n = c.self.inside.room in
    let at = c.from-place.result - 1 in
    let s = c.args.session in
    let room = ap (λ (v : WokenView). v.room) c.self.view_is in
    subst (λ (l : List ℕ). Contains (marked new n) u ↔ (Contains l u ⊎ (u ≡ s))) (ap (λ (v : WokenView). v.list) c.self.view_is)
    (marked-with words new at c.set.ensures.bits n s (ap (λ (w : ℕ). w - 1) c.from-place.ensures) c.requires.some (omega (arith, room, c.requires.within)) u)
