use Rattle.std.proofs.Common.{◌≡◌, drop}
use Rattle.lock_rules.specs.Kinds.{word_of_reply}
use Rattle.lock_trace.specs.declared.faults.TraceKind.TheVariants as kind
use Rattle.lock_trace.specs.Fields.{find_named, reply_kind_in}
use Rattle.lock_trace.proofs.fields.reply_kind_of.Given as goal

-- No kind before this one has the field as its word.
abbrev pub invariant-loop-kind : goal.invariant-loop-kind
invariant-loop-kind l = reply_kind_in l.field ≡ find_named word_of_reply kind.Reply (drop l.kind-index l.kind-items) l.field
