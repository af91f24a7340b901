use Rattle.std.proofs.Common.{◌≡◌, drop}
use Rattle.lock_rules.specs.Kinds.{word_of}
use Rattle.lock_trace.specs.declared.faults.TraceKind.TheVariants as kind
use Rattle.lock_trace.specs.Fields.{find_named, op_in}
use Rattle.lock_trace.proofs.fields.op_of.Given as goal

-- No operation before this one has the field as its word.
abbrev pub invariant-loop-op : goal.invariant-loop-op
invariant-loop-op l = op_in l.field ≡ find_named word_of kind.Op (drop l.op-index l.op-items) l.field
