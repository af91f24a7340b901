use Rattle.std.proofs.Common.{◌∙◌, sym}
use Rattle.lock_modes.proofs.Names.{passed_over}
use Rattle.lock_modes.proofs.Mode.parse.Goals as goal

pub loop-mode-preserved : goal.loop-mode-preserved
loop-mode-preserved c = passed_over _ c.loop-mode.mode-index _ c.args.text.now c.name.result.now _ c.loop-mode-test.true c.name.ensures (sym c.eq.ensures ∙ c.if-eq.false) c.loop-mode.invariant
