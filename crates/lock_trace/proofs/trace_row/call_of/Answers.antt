use Rattle.std.proofs.Common.{◌≡◌, Bool, true, false, List, ℕ, length, Result, Ok, Err, refl}
use Rattle.std.specs.Prelude.{◌==◌}
use Rattle.lock_rules.specs.declared.calls.Call.TheVariants as call
use Rattle.lock_trace.specs.declared.faults.TraceKind.{TraceKind}
use Rattle.lock_trace.specs.declared.faults.TraceKind.TheVariants as kind
use Rattle.lock_rules.specs.declared.kinds.Op.{Op}
use Rattle.lock_rules.specs.declared.kinds.Op.TheVariants as op
use Rattle.lock_trace.specs.Fields.{resource_in}
use Rattle.lock_trace.specs.Rows.{call_in}
use Rattle.lock_trace.proofs.trace_row.call_of.Goals as goal

-- A release with an empty mode field is read as the release of its resource.
without_mode : (o : Op) (r m : List ℕ) (x : Result (List ℕ) TraceKind) (resource : List ℕ) (none : Bool)
    → o ≡ op.Release → x ≡ resource_in r → x ≡ Ok resource → none ≡ (length m == 0) → none ≡ true → Ok (call.Release resource) ≡ call_in o r m
without_mode o r m x resource none is read was empty holds = rw (is, ← read, was, ← empty, holds) refl

-- A release with a mode has the fault Extra.
with_mode : (o : Op) (r m : List ℕ) (x : Result (List ℕ) TraceKind) (resource : List ℕ) (none : Bool)
    → o ≡ op.Release → x ≡ resource_in r → x ≡ Ok resource → none ≡ (length m == 0) → none ≡ false → Err kind.Extra ≡ call_in o r m
with_mode o r m x resource none is read was empty fails = rw (is, ← read, was, ← empty, fails) refl

pub returns-else-not-is_empty : goal.returns-else-not-is_empty
returns-else-not-is_empty c =
    without_mode c.args.op c.args.resource.now c.args.mode.now c.resource_of.result c.in_ok-resource-in-Release.resource c.is_empty.result c.in-Release.is c.resource_of.ensures c.in_ok-resource-in-Release.was c.is_empty.ensures c.if-not-is_empty.false

pub returns-then-not-is_empty : goal.returns-then-not-is_empty
returns-then-not-is_empty c =
    with_mode c.args.op c.args.resource.now c.args.mode.now c.resource_of.result c.in_ok-resource-in-Release.resource c.is_empty.result c.in-Release.is c.resource_of.ensures c.in_ok-resource-in-Release.was c.is_empty.ensures c.if-not-is_empty.true
