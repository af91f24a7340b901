use Rattle.std.proofs.Common.{◌∙◌, sym}
use Rattle.lock_rules.specs.Kinds.{word_of_reply}
use Rattle.lock_trace.specs.declared.faults.TraceKind.TheVariants as kind
use Rattle.lock_trace.proofs.Names.{passed_over}
use Rattle.lock_trace.proofs.fields.reply_kind_of.Goals as goal

pub loop-kind-preserved : goal.loop-kind-preserved
loop-kind-preserved c =
    passed_over word_of_reply kind.Reply _ c.loop-kind.kind-index _ c.args.field.now c.as_bytes.result.now _ c.loop-kind-test.true (c.as_bytes.ensures.value ∙ c.word.ensures) (sym c.eq.ensures ∙ c.if-eq.false) c.loop-kind.invariant
