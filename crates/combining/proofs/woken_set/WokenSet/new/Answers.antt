use Rattle.std.proofs.Common.{◌≡◌, ℕ, ◌∙◌, [], List, length, sym, ap, arith}
use Rattle.combining.specs.inner.EndedList.{marked}
use Rattle.combining.proofs.EndedList.{marked-none}
use Rattle.combining.proofs.woken_set.WokenSet.new.Goals as goal

pub invariant_of-result : goal.invariant_of-result
invariant_of-result c =
    let zeros = c.in_ok-words.ensures.items_if_clones_equal (λ y e. e) in
    let none : marked c.in_ok-words.words.items c.args.sessions ≡ [] = ap (λ (l : List ℕ). marked l c.args.sessions) zeros ∙ marked-none _ c.args.sessions in
    record {
      bits = omega (arith, c.in_ok-words.ensures.len, c.from.ensures);
      small = c.ranges.sessions.fits;
      count = ap (λ (l : List ℕ). length l) (sym none);
    }

pub returns-clause-empty : goal.returns-clause-empty
returns-clause-empty c =
    let zeros = c.in_ok-words.ensures.items_if_clones_equal (λ y e. e) in
    ap (λ (l : List ℕ). marked l c.args.sessions) zeros ∙ marked-none _ c.args.sessions
