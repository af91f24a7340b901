use Rattle.std.proofs.Common.{arith, ◌+◌, ◌-◌, ◌≤◌, ◌≡◌, ◌∙◌, inl, inr, length, drop}
use Rattle.std.proofs.lemmas.List.{length-take-le, length-drop}
use Rattle.waits_for.proofs.Placed.{placed-behind, placed-before}
use Rattle.waits_for.proofs.bits.or_within.Goals as goal

pub returns-then-from-other : goal.returns-then-from-other
returns-then-from-other c =
    let cut = c.split_at_mut-before in
    let unite = c.unite in
    let from = c.args.from in
    let count = c.args.count in
    let a = cut.result.0.now in
    let apart : from + count ≤ c.args.other = elim c.requires.apart [ inl le ↦ le | inr le ↦ omega (arith, le, c.if-from-other.true) ] in
    let wide : length unite.new.row ≡ count = let w = length-take-le (from + count - from) (drop from a) (omega (arith, length-drop from a, cut.ensures.front_len, apart)) in omega (arith, unite.auto.row, w) in
    placed-before c.args.words.now a cut.result.1.now unite.new.row from c.args.other count cut.ensures.value cut.ensures.front_len apart wide unite.ensures

pub returns-else-from-other : goal.returns-else-from-other
returns-else-from-other c =
    let cut = c.split_at_mut-before-else-from-other in
    let unite = c.unite-else-from-other in
    let apart : c.args.other + c.args.count ≤ c.args.from = elim c.requires.apart [ inl le ↦ omega (arith, le, c.if-from-other.false) | inr le ↦ le ] in
    let wide : length unite.new.row ≡ c.args.count = unite.auto.row ∙ length-take-le c.args.count cut.result.1.now (omega (arith, cut.ensures.back_len, c.requires.room)) in
    placed-behind c.args.words.now cut.result.0.now cut.result.1.now unite.new.row c.args.from c.args.other c.args.count cut.ensures.value cut.ensures.front_len c.requires.room apart wide unite.ensures
