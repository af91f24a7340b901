use Rattle.std.proofs.Common.{◌≡◌, drop}
use Rattle.lock_modes.specs.Codes.{name_of}
use Rattle.lock_trace.specs.declared.faults.TraceKind.TheVariants as kind
use Rattle.lock_trace.specs.Fields.{find_named, mode_in}
use Rattle.lock_trace.proofs.fields.mode_of.Given as goal

-- No mode before this one has the field as its name.
abbrev pub invariant-loop-mode : goal.invariant-loop-mode
invariant-loop-mode l = mode_in l.field ≡ find_named name_of kind.Mode (drop l.mode-index l.mode-items) l.field
