use Rattle.std.proofs.Common.{◌∙◌, sym}
use Rattle.lock_modes.specs.Codes.{name_of}
use Rattle.lock_trace.specs.declared.faults.TraceKind.TheVariants as kind
use Rattle.lock_trace.proofs.Names.{passed_over}
use Rattle.lock_trace.proofs.fields.mode_of.Goals as goal

pub loop-mode-preserved : goal.loop-mode-preserved
loop-mode-preserved c =
    passed_over name_of kind.Mode _ c.loop-mode.mode-index _ c.args.field.now c.as_bytes.result.now _ c.loop-mode-test.true (c.as_bytes.ensures.value ∙ c.name.ensures) (sym c.eq.ensures ∙ c.if-eq.false) c.loop-mode.invariant
