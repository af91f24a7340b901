-- What each single field of a row is read as, or the fault of the field.
use Rattle.std.specs.Prelude.{◌≡◌, ◌==◌, ◌<◌, ◌≤◌, ℕ, if◌then◌else◌, List, [], ◌∷◌, Result, Ok, Err, bytes_eq, decimal}
use Rattle.std.specs.Str.{is_utf8}
use Rattle.lock_modes.specs.declared.Mode.{Mode}
use Rattle.lock_modes.specs.declared.TheConstants.{MODES}
use Rattle.lock_modes.specs.Codes.{name_of}
use Rattle.lock_rules.specs.declared.calls.Why.{Why}
use Rattle.lock_rules.specs.Names.{name_of_why}
use Rattle.lock_rules.specs.declared.kinds.Op.{Op}
use Rattle.lock_rules.specs.declared.kinds.ReplyKind.{ReplyKind}
use Rattle.lock_rules.specs.declared.kinds.TheConstants.{OPS, REPLY_KINDS, REFUSALS}
use Rattle.lock_rules.specs.Kinds.{word_of, word_of_reply}
use Rattle.lock_tree.specs.declared.path_fault.PathFault.{PathFault}
use Rattle.lock_tree.specs.declared.path_fault.PathFault.TheVariants as path
use Rattle.lock_tree.specs.Readings.{reading_of}
use Rattle.lock_tree.specs.Numerals.{reading_of_numeral}
use Rattle.lock_tree.specs.declared.numeral.NumeralFault.{NumeralFault}
use Rattle.lock_trace.specs.declared.faults.TraceKind.{TraceKind}
use Rattle.lock_trace.specs.declared.faults.TraceKind.TheVariants as kind

-- A session number that was parsed: 0 is a fault, as is a parse fault.
abbrev pub above_zero : Result ℕ NumeralFault → Result ℕ TraceKind
above_zero (Ok s) = if s == 0 then Err kind.Session else Ok s
above_zero (Err f) = Err kind.Session

-- The session number of a field: the decimal text of a number from 1 to n.
abbrev pub session_in : ℕ → List ℕ → Result ℕ TraceKind
session_in n bs = above_zero (reading_of_numeral n bs)

-- The field is the decimal text of session s, one of n sessions.
pub record IsSessionText (n s : ℕ) (field : List ℕ) : Type 0 where
  pub first : 0 < s
  pub last : s ≤ n
  pub text : field ≡ decimal s

-- The first item whose name is the field, or the fault if there is none.
abbrev pub find_named : {A : Type 0} → (A → List ℕ) → TraceKind → List A → List ℕ → Result A TraceKind
find_named name fault [] bs = Err fault
find_named name fault (x ∷ xs) bs = if bytes_eq bs (name x) then Ok x else find_named name fault xs bs

-- The operation of a field, by its word.
abbrev pub op_in : List ℕ → Result Op TraceKind
op_in bs = find_named word_of kind.Op OPS bs

-- The mode of a field, by its name.
abbrev pub mode_in : List ℕ → Result Mode TraceKind
mode_in bs = find_named name_of kind.Mode MODES bs

-- A resource, or the path fault as the fault of a row.
abbrev pub or_path : Result (List ℕ) PathFault → Result (List ℕ) TraceKind
or_path (Ok r) = Ok r
or_path (Err f) = Err (kind.Path f)

-- The resource of a field. A field that is not UTF-8 has the path fault NotANumber.
abbrev pub resource_in : List ℕ → Result (List ℕ) TraceKind
resource_in bs = if is_utf8 bs then or_path (reading_of bs) else Err (kind.Path path.NotANumber)

-- The place field is the decimal text of the place, or faulty.
abbrev pub place_in : ℕ → List ℕ → Result (Unit {0}) TraceKind
place_in place bs = if bytes_eq bs (decimal place) then Ok tt else Err kind.Place

-- The kind of reply of a field, by its word.
abbrev pub reply_kind_in : List ℕ → Result ReplyKind TraceKind
reply_kind_in bs = find_named word_of_reply kind.Reply REPLY_KINDS bs

-- What was read, or the fault Value for any fault.
abbrev pub or_value : {A F : Type 0} → Result A F → Result A TraceKind
or_value (Ok x) = Ok x
or_value (Err f) = Err kind.Value

-- The largest number of 64 bits.
abbrev pub max_u64 : ℕ
max_u64 = 18446744073709551615

-- The largest number of 32 bits.
abbrev pub max_u32 : ℕ
max_u32 = 4294967295

-- The number of a value field: the decimal text of a number of at most `most`.
abbrev pub number_in : ℕ → List ℕ → Result ℕ TraceKind
number_in most bs = or_value (reading_of_numeral most bs)

-- The mode of a value field, by its name.
abbrev pub granted_in : List ℕ → Result Mode TraceKind
granted_in bs = or_value (mode_in bs)

-- The reason of a refusal in a value field, by its name.
abbrev pub why_in : List ℕ → Result Why TraceKind
why_in bs = find_named name_of_why kind.Value REFUSALS bs
