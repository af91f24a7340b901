use Rattle.std.proofs.Common.{◌∙◌, sym}
use Rattle.lock_rules.proofs.RefusalNames.{passed_over}
use Rattle.lock_rules.proofs.calls.Why.parse.Goals as goal

pub loop-why-preserved : goal.loop-why-preserved
loop-why-preserved c = passed_over _ c.loop-why.why-index _ c.args.text.now c.name.result.now _ c.loop-why-test.true c.name.ensures (sym c.eq.ensures ∙ c.if-eq.false) c.loop-why.invariant
