use Rattle.std.proofs.Common.{rules, ◌∙◌}
use Rattle.combining.proofs.PerformedCalls.{noted-next}
use Rattle.combining.proofs.clean_up.note_served.Goals as goal

pub loop-item-preserved : goal.loop-item-preserved
loop-item-preserved g c =
    let i = c.loop-item.invariant in record {
      len = search rules;
      ages = noted-next c.loop-item.ages.items _ c.args.passes c.args.served.now c.loop-item.item-index c.item-item.result c.loop-item-test.true c.item-item.is (search rules) ∙ i.ages;
    }
