use Rattle.std.proofs.Common.{◌∙◌, sym}
use Rattle.lock_rules.specs.Kinds.{word_of}
use Rattle.lock_trace.specs.declared.faults.TraceKind.TheVariants as kind
use Rattle.lock_trace.proofs.Names.{passed_over}
use Rattle.lock_trace.proofs.fields.op_of.Goals as goal

pub loop-op-preserved : goal.loop-op-preserved
loop-op-preserved c =
    passed_over word_of kind.Op _ c.loop-op.op-index _ c.args.field.now c.as_bytes.result.now _ c.loop-op-test.true (c.as_bytes.ensures.value ∙ c.word.ensures) (sym c.eq.ensures ∙ c.if-eq.false) c.loop-op.invariant
