use Rattle.std.proofs.Common.{arith, subst}
use Rattle.std.proofs.lemmas.List.{take_all}
use Rattle.std.specs.List.{All}
use Rattle.std.proofs.lemmas.List.Elements.{All-more}
use Rattle.sequential.specs.Batches.{IsItemWithin}
use Rattle.sequential.proofs.entry.are_within.Goals as goal

pub loop-item-preserved : goal.loop-item-preserved
loop-item-preserved g c =
    All-more (IsItemWithin c.args.sessions) c.args.items.now c.loop-item.item-index c.item-item.result c.loop-item-test.true c.loop-item.invariant
    (subst (IsItemWithin c.args.sessions) c.item-item.is (record { some = omega (arith, c.if-item-lt1.false); within = omega (arith, c.if-sessions-item.false) }))

pub returns-clause-yes : goal.returns-clause-yes
returns-clause-yes g c = λ _. subst (All (IsItemWithin c.args.sessions)) (take_all c.loop-item.item-index c.args.items.now c.loop-item-test.false) c.loop-item.invariant
