-- The rows of a trace: the fields of a row, and the row of some fields.
use Rattle.std.specs.Prelude.{◌==◌, ◌||◌, ◌<◌, ◌≤◌, ℕ, not, if◌then◌else◌, List, [], ◌∷◌, length, Result, Ok, Err, decimal}
use Rattle.lock_modes.specs.declared.Mode.{Mode}
use Rattle.lock_modes.specs.Codes.{name_of}
use Rattle.lock_tree.specs.Paths.{IsResource}
use Rattle.lock_tree.specs.Text.{text_of}
use Rattle.lock_rules.specs.declared.calls.Call.{Call}
use Rattle.lock_rules.specs.declared.calls.Call.TheVariants as call
use Rattle.lock_trace.specs.declared.faults.TraceKind.{TraceKind}
use Rattle.lock_trace.specs.declared.faults.TraceKind.TheVariants as kind
use Rattle.lock_rules.specs.declared.kinds.Op.{Op}
use Rattle.lock_rules.specs.declared.kinds.Op.TheVariants as op
use Rattle.lock_trace.specs.declared.trace_row.TraceRow.{TraceRow}
use Rattle.lock_rules.specs.Kinds.{op_of_call, word_of}
use Rattle.lock_trace.specs.Fields.{session_in, op_in, resource_in, mode_in}

-- The path of the resource that a call names, or the empty field.
abbrev pub resource_field : Call → List ℕ
resource_field call.Begin = []
resource_field (call.Lock r m) = text_of r
resource_field (call.Convert r m) = text_of r
resource_field call.Poll = []
resource_field (call.Release r) = text_of r
resource_field call.Commit = []
resource_field call.Abort = []
resource_field (call.Try r m) = text_of r
resource_field call.Withdraw = []
resource_field call.Restart = []

-- The name of the mode that a call asks for, or the empty field.
abbrev pub mode_field : Call → List ℕ
mode_field call.Begin = []
mode_field (call.Lock r m) = name_of m
mode_field (call.Convert r m) = name_of m
mode_field call.Poll = []
mode_field (call.Release r) = []
mode_field call.Commit = []
mode_field call.Abort = []
mode_field (call.Try r m) = name_of m
mode_field call.Withdraw = []
mode_field call.Restart = []

-- The fields of a call: operation, resource and mode.
abbrev pub fields_of_call : Call → List (List ℕ)
fields_of_call c = word_of (op_of_call c) ∷ resource_field c ∷ mode_field c ∷ []

-- The four fields of a trace row: session, operation, resource and mode.
abbrev pub fields_of_row : TraceRow → List (List ℕ)
fields_of_row row = decimal row.session ∷ fields_of_call row.call

-- The resource that a call names is valid, if it names one.
abbrev pub HasResources : Call → Type 0
HasResources call.Begin = Unit {0}
HasResources (call.Lock r m) = IsResource r
HasResources (call.Convert r m) = IsResource r
HasResources call.Poll = Unit {0}
HasResources (call.Release r) = IsResource r
HasResources call.Commit = Unit {0}
HasResources call.Abort = Unit {0}
HasResources (call.Try r m) = IsResource r
HasResources call.Withdraw = Unit {0}
HasResources call.Restart = Unit {0}

-- The row's session is between 1 and the number of sessions, and its call names only valid resources.
pub record IsRow (sessions : ℕ) (row : TraceRow) : Type 0 where
  pub first : 0 < row.session
  pub last : row.session ≤ sessions
  pub resources : HasResources row.call

-- Runs the second step on the result of the first; the first fault is the result.
infixl 10 ◌>>=◌
abbrev pub ◌>>=◌ : {A B : Type 0} → Result A TraceKind → (A → Result B TraceKind) → Result B TraceKind
(Ok x) >>= f = f x
(Err e) >>= f = Err e

-- The call, which takes no resource and no mode: both fields must be empty.
abbrev pub without_fields : Call → List ℕ → List ℕ → Result Call TraceKind
without_fields c r m = if not (length r == 0) || not (length m == 0) then Err kind.Extra else Ok c

-- The call, which takes a resource and no mode: the mode field must be empty.
abbrev pub with_resource : (List ℕ → Call) → List ℕ → List ℕ → Result Call TraceKind
with_resource c r m = do
  resource ← resource_in r
  if not (length m == 0) then Err kind.Extra else Ok (c resource)

-- The resource and the mode of a call that takes both, or the first fault.
abbrev pub resource_and_mode_in : List ℕ → List ℕ → Result (List ℕ × Mode) TraceKind
resource_and_mode_in r m = do
  resource ← resource_in r
  mode ← mode_in m
  Ok (resource, mode)

-- The call of an operation and the two fields after it, or the first fault.
abbrev pub call_in : Op → List ℕ → List ℕ → Result Call TraceKind
call_in op.Begin r m = without_fields call.Begin r m
call_in op.Lock r m = do
  operands ← resource_and_mode_in r m
  Ok (call.Lock operands.0 operands.1)
call_in op.Convert r m = do
  operands ← resource_and_mode_in r m
  Ok (call.Convert operands.0 operands.1)
call_in op.Poll r m = without_fields call.Poll r m
call_in op.Release r m = with_resource (λ resource. call.Release resource) r m
call_in op.Commit r m = without_fields call.Commit r m
call_in op.Abort r m = without_fields call.Abort r m
call_in op.Try r m = do
  operands ← resource_and_mode_in r m
  Ok (call.Try operands.0 operands.1)
call_in op.Withdraw r m = without_fields call.Withdraw r m
call_in op.Restart r m = without_fields call.Restart r m

-- The trace row of four fields, or the first fault.
abbrev pub row_in : ℕ → List ℕ → List ℕ → List ℕ → List ℕ → Result TraceRow TraceKind
row_in n s o r m = do
  session ← session_in n s
  operation ← op_in o
  parsed ← call_in operation r m
  Ok (record { session = session; call = parsed })

-- The trace row of a record, or the first fault. A record that does not have four fields has the fault Shape.
abbrev pub row_of : ℕ → List (List ℕ) → Result TraceRow TraceKind
row_of n [] = Err kind.Shape
row_of n (s ∷ []) = Err kind.Shape
row_of n (s ∷ o ∷ []) = Err kind.Shape
row_of n (s ∷ o ∷ r ∷ []) = Err kind.Shape
row_of n (s ∷ o ∷ r ∷ m ∷ []) = row_in n s o r m
row_of n (s ∷ o ∷ r ∷ m ∷ x ∷ xs) = Err kind.Shape
