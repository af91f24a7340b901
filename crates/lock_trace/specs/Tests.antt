-- The tests of a row in their order, stated apart from how a row is read.
use Rattle.std.specs.Prelude.{ℕ, Bool, not, ◌&&◌, ◌||◌, ◌==◌, if◌then◌else◌, List, [], ◌∷◌, ◌++◌, length, slice_index_or, Option, Some, None, is_some, unwrap_or, bytes_eq, decimal}
use Rattle.std.specs.List.{list_any}
use Rattle.std.specs.Str.{is_utf8}
use Rattle.lock_modes.specs.declared.TheConstants.{MODES}
use Rattle.lock_modes.specs.Codes.{name_of}
use Rattle.lock_tree.specs.declared.path_fault.PathFault.{PathFault}
use Rattle.lock_tree.specs.declared.path_fault.PathFault.TheVariants as path
use Rattle.lock_tree.specs.Faults.{fault_of}
use Rattle.lock_tree.specs.Numerals.{number_of, fault_of_numeral}
use Rattle.lock_rules.specs.Names.{name_of_why}
use Rattle.lock_trace.specs.declared.faults.TraceKind.{TraceKind}
use Rattle.lock_trace.specs.declared.faults.TraceKind.TheVariants as kind
use Rattle.lock_rules.specs.declared.kinds.TheConstants.{OPS, REPLY_KINDS, REFUSALS}
use Rattle.lock_rules.specs.Kinds.{ops_with_resource, ops_with_mode, word_of, word_of_reply}
use Rattle.lock_rules.specs.declared.kinds.Op.{Op}
use Rattle.lock_rules.specs.declared.kinds.ReplyKind.{ReplyKind}
use Rattle.lock_rules.specs.declared.kinds.ReplyKind.TheVariants as reply_kind
use Rattle.lock_trace.specs.Fields.{max_u64, max_u32}

-- The field is the decimal text of a number of at most `most`.
abbrev pub is_numeral : ℕ → List ℕ → Bool
is_numeral most field = not (is_some (fault_of_numeral most field))

-- The field is the decimal text of a number from 1 to n.
abbrev pub is_session : ℕ → List ℕ → Bool
is_session n field = is_numeral n field && not (number_of field == 0)

-- The field is the word of one of these operations.
abbrev pub is_word_of : List Op → List ℕ → Bool
is_word_of os field = list_any (λ o. bytes_eq field (word_of o)) os

-- The field is the path of a resource.
abbrev pub is_resource : List ℕ → Bool
is_resource field = is_utf8 field && not (is_some (fault_of field))

-- The path fault of a field that is no resource: NotANumber if it is not UTF-8.
abbrev pub path_fault_of : List ℕ → PathFault
path_fault_of field = if is_utf8 field then unwrap_or (fault_of field) path.NotANumber else path.NotANumber

-- The field is the name of a mode.
abbrev pub is_mode : List ℕ → Bool
is_mode field = list_any (λ m. bytes_eq field (name_of m)) MODES

-- The operation does not take this field, and the field is not empty.
abbrev pub is_extra : List Op → List ℕ → List ℕ → Bool
is_extra takers op field = not (is_word_of takers op) && not (length field == 0)

-- The tests of the session, operation, resource and mode fields, in order: whether each fails, and its fault.
abbrev pub tests_of_fields : ℕ → List ℕ → List ℕ → List ℕ → List ℕ → List (Bool × TraceKind)
tests_of_fields n session op resource mode =
    (not (is_session n session), kind.Session)
    ∷ (not (is_word_of OPS op), kind.Op)
    ∷ (is_word_of ops_with_resource op && not (is_resource resource), kind.Path (path_fault_of resource))
    ∷ (is_word_of ops_with_mode op && not (is_mode mode), kind.Mode)
    ∷ (is_extra ops_with_resource op resource || is_extra ops_with_mode op mode, kind.Extra)
    ∷ []

-- The field at an index, counted from 0; empty if there is none.
abbrev pub field_of : List (List ℕ) → ℕ → List ℕ
field_of fields i = slice_index_or fields i []

-- The tests of a trace row, in order.
abbrev pub tests_of_row : ℕ → List (List ℕ) → List (Bool × TraceKind)
tests_of_row n fields =
    (not (length fields == 4), kind.Shape)
    ∷ tests_of_fields n (field_of fields 0) (field_of fields 1) (field_of fields 2) (field_of fields 3)

-- The field is the word of a reply.
abbrev pub is_reply_word : List ℕ → Bool
is_reply_word field = list_any (λ r. bytes_eq field (word_of_reply r)) REPLY_KINDS

-- The field is the name of a reason of a refusal.
abbrev pub is_why : List ℕ → Bool
is_why field = list_any (λ w. bytes_eq field (name_of_why w)) REFUSALS

-- The value field has the form that replies of this kind take.
abbrev pub has_form_of : ReplyKind → List ℕ → Bool
has_form_of reply_kind.Began value = is_numeral max_u64 value
has_form_of reply_kind.Granted value = is_mode value
has_form_of reply_kind.Waiting value = length value == 0
has_form_of reply_kind.Deadlock value = length value == 0
has_form_of reply_kind.Clear value = length value == 0
has_form_of reply_kind.Released value = length value == 0
has_form_of reply_kind.Committed value = is_numeral max_u32 value
has_form_of reply_kind.Aborted value = is_numeral max_u32 value
has_form_of reply_kind.Refused value = is_why value
has_form_of reply_kind.Withdrawn value = length value == 0
has_form_of reply_kind.Restarted value = is_numeral max_u32 value

-- The value field has the form that the reply with this word takes.
abbrev pub is_value : List ℕ → List ℕ → Bool
is_value word value = list_any (λ r. bytes_eq word (word_of_reply r) && has_form_of r value) REPLY_KINDS

-- The tests of the reply and value fields, in order.
abbrev pub tests_of_reply : List ℕ → List ℕ → List (Bool × TraceKind)
tests_of_reply word value = (not (is_reply_word word), kind.Reply) ∷ (not (is_value word value), kind.Value) ∷ []

-- The tests of a history row, in order: shape, place, the four fields of a trace row, reply, value.
abbrev pub tests_of_entry : ℕ → ℕ → List (List ℕ) → List (Bool × TraceKind)
tests_of_entry n place fields =
    (not (length fields == 7), kind.Shape)
    ∷ (not (bytes_eq (field_of fields 0) (decimal place)), kind.Place)
    ∷ (tests_of_fields n (field_of fields 1) (field_of fields 2) (field_of fields 3) (field_of fields 4)
    ++ tests_of_reply (field_of fields 5) (field_of fields 6))

-- The fault of the first test that fails.
abbrev pub first_failing : List (Bool × TraceKind) → Option TraceKind
first_failing [] = None
first_failing (t ∷ ts) = if t.0 then Some t.1 else first_failing ts

-- The number of a fault: 1 to 6 for the tests of a trace row, 7 and 8 for the device and memory, 9 to 11 for
-- histories.
abbrev pub number_of_kind : TraceKind → ℕ
number_of_kind kind.Shape = 1
number_of_kind kind.Session = 2
number_of_kind kind.Op = 3
number_of_kind (kind.Path f) = 4
number_of_kind kind.Mode = 5
number_of_kind kind.Extra = 6
number_of_kind kind.Device = 7
number_of_kind kind.NoMemory = 8
number_of_kind kind.Place = 9
number_of_kind kind.Reply = 10
number_of_kind kind.Value = 11
