-- Reading a trace row fails with the first of its tests that fails.
use Rattle.std.proofs.Common.{◌≡◌, ◌↔◌, ℕ, ◌<◌, ◌^◌, Bool, true, false, List, [], ◌∷◌, length, Option, Some, None, Result, Ok, Err, refl, sym, ap, ◌∙◌, arith, ne_eqb}
use Rattle.std.specs.Prelude.{◌==◌, ◌&&◌, ◌||◌, not, if◌then◌else◌, is_some, unwrap_or, bytes_eq}
use Rattle.std.specs.List.{list_any}
use Rattle.std.specs.Str.{is_utf8}
use Rattle.lock_modes.specs.Codes.{name_of}
use Rattle.lock_tree.specs.declared.path_fault.PathFault.{PathFault}
use Rattle.lock_tree.specs.declared.path_fault.PathFault.TheVariants as path
use Rattle.lock_tree.specs.declared.numeral.NumeralFault.{NumeralFault}
use Rattle.lock_tree.specs.Faults.{fault_of}
use Rattle.lock_tree.specs.Readings.{numbers_in}
use Rattle.lock_tree.specs.Numerals.{number_of, fault_of_numeral, ok_unless}
use Rattle.lock_rules.specs.declared.calls.Call.{Call}
use Rattle.lock_rules.specs.declared.calls.Call.TheVariants as call
use Rattle.lock_trace.specs.declared.faults.TraceKind.{TraceKind}
use Rattle.lock_trace.specs.declared.faults.TraceKind.TheVariants as kind
use Rattle.lock_rules.specs.declared.kinds.Op.{Op}
use Rattle.lock_rules.specs.declared.kinds.Op.TheVariants as op
use Rattle.lock_trace.specs.declared.trace_row.TraceRow.{TraceRow}
use Rattle.lock_modes.specs.declared.TheConstants.{MODES}
use Rattle.lock_rules.specs.declared.kinds.TheConstants.{OPS}
use Rattle.lock_rules.specs.Kinds.{ops_with_resource, ops_with_mode, word_of}
use Rattle.lock_trace.specs.Fields.{find_named, above_zero, session_in, op_in, mode_in, resource_in, or_path}
use Rattle.lock_trace.specs.Tests.{is_session, is_word_of, is_resource, path_fault_of, is_mode, is_extra, tests_of_fields, tests_of_row, first_failing}
use Rattle.lock_trace.specs.Rows.{IsRow, fields_of_row, ◌>>=◌, resource_and_mode_in, call_in, row_in, row_of}
use Rattle.lock_trace.proofs.Names.{op_is}
use Rattle.lock_trace.proofs.RowLaws.{row_iff}

-- A test and the reading of its field agree: both pass, or both fail with this fault.
pub data Agree {A : Type 0} (k : TraceKind) : Bool → Result A TraceKind → Type 0 where
  passes : (a : A) → Agree k true (Ok a)
  fails : Agree k false (Err k)

-- The fault of a result, if it has one.
abbrev pub fault_in : {A : Type 0} → Result A TraceKind → Option TraceKind
fault_in (Ok a) = None
fault_in (Err k) = Some k

-- If the first step agrees with the first test, and the later steps with the later tests, then all steps agree
-- with all tests.
pub then_tests : {A B : Type 0} (k : TraceKind) (b : Bool) (x : Result A TraceKind) (f : A → Result B TraceKind) (ts : List (Bool × TraceKind))
    → Agree k b x → ((a : A) → x ≡ Ok a → fault_in (f a) ≡ first_failing ts) → fault_in (x >>= f) ≡ first_failing ((not b, k) ∷ ts)
then_tests k _ _ f ts (passes a) later = later a refl
then_tests k _ _ f ts fails later = refl

-- Making something of a result does not change its fault.
pub fault_after : {A B : Type 0} (x : Result A TraceKind) (g : A → B) → fault_in (x >>= (λ a. Ok (g a))) ≡ fault_in x
fault_after (Ok a) g = refl
fault_after (Err k) g = refl

-- Single fields.

-- The test for session 0 agrees with its reading.
number_agrees : (s : ℕ) (b : Bool) → Agree kind.Session (not b) (if b then Err kind.Session else Ok s)
number_agrees s true = fails
number_agrees s false = passes s

-- The test of a session's number agrees with its reading.
numeral_agrees : (f : Option NumeralFault) (s : ℕ) → Agree kind.Session (not (is_some f) && not (s == 0)) (above_zero (ok_unless f s))
numeral_agrees None s = number_agrees s (s == 0)
numeral_agrees (Some f) s = fails

-- The test of a session agrees with its reading.
session_agrees : (n : ℕ) (field : List ℕ) → Agree kind.Session (is_session n field) (session_in n field)
session_agrees n field = numeral_agrees (fault_of_numeral n field) (number_of field)

-- One item before the rest of a search: the test agrees with the reading.
name_agrees : {A : Type 0} (fault : TraceKind) (x : A) (b c : Bool) (later : Result A TraceKind) → Agree fault c later → Agree fault (b || c) (if b then Ok x else later)
name_agrees fault x true c later agree = passes x
name_agrees fault x false c later agree = agree

-- The test for a name in a list agrees with the search for it.
pub named_agrees : {A : Type 0} (name : A → List ℕ) (fault : TraceKind) (xs : List A) (field : List ℕ) → Agree fault (list_any (λ x. bytes_eq field (name x)) xs) (find_named name fault xs field)
named_agrees name fault [] field = fails
named_agrees name fault (x ∷ xs) field = name_agrees fault x (bytes_eq field (name x)) (list_any (λ y. bytes_eq field (name y)) xs) (find_named name fault xs field) (named_agrees name fault xs field)

-- The path fault of a field, by whether the field is UTF-8.
abbrev path_fault_by : Bool → Option PathFault → PathFault
path_fault_by b f = if b then unwrap_or f path.NotANumber else path.NotANumber

-- The test of a path agrees with its reading, by cases.
path_agrees : (b : Bool) (f : Option PathFault) (r : List ℕ) → Agree (kind.Path (path_fault_by b f)) (b && not (is_some f)) (if b then or_path (ok_unless f r) else Err (kind.Path path.NotANumber))
path_agrees true None r = passes r
path_agrees true (Some f) r = fails
path_agrees false f r = fails

-- The test of a resource agrees with its reading.
resource_agrees : (field : List ℕ) → Agree (kind.Path (path_fault_of field)) (is_resource field) (resource_in field)
resource_agrees field = path_agrees (is_utf8 field) (fault_of field) (numbers_in field)

-- The resource and mode fields of an operation.

-- The tests of the resource and mode fields of an operation, in order.
abbrev tests_after : List ℕ → List ℕ → List ℕ → List (Bool × TraceKind)
tests_after o r m =
    (is_word_of ops_with_resource o && not (is_resource r), kind.Path (path_fault_of r))
    ∷ (is_word_of ops_with_mode o && not (is_mode m), kind.Mode)
    ∷ (is_extra ops_with_resource o r || is_extra ops_with_mode o m, kind.Extra)
    ∷ []

-- A call with extra fields fails with the fault of the test for extra fields.
extra_fault : (b : Bool) (c : Call) → fault_in (if b then Err kind.Extra else Ok c) ≡ first_failing ((b, kind.Extra) ∷ [])
extra_fault true c = refl
extra_fault false c = refl

-- Reading a resource and a mode fails with the first of their tests that fails.
both_fault : (r m : List ℕ) → fault_in (resource_and_mode_in r m) ≡ first_failing ((not (is_resource r), kind.Path (path_fault_of r)) ∷ (not (is_mode m), kind.Mode) ∷ (false, kind.Extra) ∷ [])
both_fault r m =
    then_tests (kind.Path (path_fault_of r)) (is_resource r) (resource_in r) (λ resource. mode_in m >>= (λ mode. Ok (resource, mode))) ((not (is_mode m), kind.Mode) ∷ (false, kind.Extra) ∷ []) (resource_agrees r)
    (λ resource read. then_tests kind.Mode (is_mode m) (mode_in m) (λ mode. Ok (resource, mode)) ((false, kind.Extra) ∷ []) (named_agrees name_of kind.Mode MODES m) (λ mode read_m. refl))

-- Reading a call fails with the first of its operation's tests that fails.
call_fault : (o : Op) (r m : List ℕ) → fault_in (call_in o r m) ≡ first_failing (tests_after (word_of o) r m)
call_fault op.Begin r m = extra_fault (not (length r == 0) || not (length m == 0)) call.Begin
call_fault op.Lock r m = fault_after (resource_and_mode_in r m) (λ asked. call.Lock asked.0 asked.1) ∙ both_fault r m
call_fault op.Convert r m = fault_after (resource_and_mode_in r m) (λ asked. call.Convert asked.0 asked.1) ∙ both_fault r m
call_fault op.Poll r m = extra_fault (not (length r == 0) || not (length m == 0)) call.Poll
call_fault op.Release r m =
    then_tests (kind.Path (path_fault_of r)) (is_resource r) (resource_in r) (λ resource. if not (length m == 0) then Err kind.Extra else Ok (call.Release resource)) ((not (length m == 0), kind.Extra) ∷ []) (resource_agrees r)
    (λ resource read. extra_fault (not (length m == 0)) (call.Release resource))
call_fault op.Commit r m = extra_fault (not (length r == 0) || not (length m == 0)) call.Commit
call_fault op.Abort r m = extra_fault (not (length r == 0) || not (length m == 0)) call.Abort
call_fault op.Try r m = fault_after (resource_and_mode_in r m) (λ asked. call.Try asked.0 asked.1) ∙ both_fault r m
call_fault op.Withdraw r m = extra_fault (not (length r == 0) || not (length m == 0)) call.Withdraw
call_fault op.Restart r m = extra_fault (not (length r == 0) || not (length m == 0)) call.Restart

-- Whole rows.

-- A row of a session and a call.
abbrev row_by : ℕ → Call → TraceRow
row_by s c = record { session = s; call = c }

-- Reading four fields fails with the first of their tests that fails.
pub fields_fault : (n : ℕ) (s o r m : List ℕ) → fault_in (row_in n s o r m) ≡ first_failing (tests_of_fields n s o r m)
fields_fault n s o r m =
    then_tests kind.Session (is_session n s) (session_in n s) (λ session. op_in o >>= (λ asked. call_in asked r m >>= (λ made. Ok (row_by session made)))) ((not (is_word_of OPS o), kind.Op) ∷ tests_after o r m) (session_agrees n s)
    (λ session read_s.
    then_tests kind.Op (is_word_of OPS o) (op_in o) (λ asked. call_in asked r m >>= (λ made. Ok (row_by session made))) (tests_after o r m) (named_agrees word_of kind.Op OPS o)
    (λ asked read_o.
    fault_after (call_in asked r m) (row_by session) ∙ call_fault asked r m
    ∙ ap (λ (w : List ℕ). first_failing (tests_after w r m)) (sym (op_is o asked read_o))))

-- Reading a record as a trace row fails with the first test that fails.
row_fault : (n : ℕ) (fields : List (List ℕ)) → fault_in (row_of n fields) ≡ first_failing (tests_of_row n fields)
row_fault n [] = refl
row_fault n (s ∷ []) = refl
row_fault n (s ∷ o ∷ []) = refl
row_fault n (s ∷ o ∷ r ∷ []) = refl
row_fault n (s ∷ o ∷ r ∷ m ∷ []) = fields_fault n s o r m
row_fault n (s ∷ o ∷ r ∷ m ∷ x ∷ xs) =
    let five : (length (s ∷ o ∷ r ∷ m ∷ x ∷ xs) == 4) ≡ false = ne_eqb (length (s ∷ o ∷ r ∷ m ∷ x ∷ xs)) 4 (λ e. omega (arith, e)) in
    rw five refl

-- A result whose fault is this one is `Err` of it.
pub err_has : {A : Type 0} (x : Result A TraceKind) (k : TraceKind) → fault_in x ≡ Some k → x ≡ Err k
err_has (Ok a) k e = absurd cc
err_has (Err e) k is = cc

-- A result without a fault is `Ok`.
pub ok_has : {A : Type 0} (x : Result A TraceKind) → fault_in x ≡ None → (a : A) × (x ≡ Ok a)
ok_has (Ok a) e = (a, refl)
ok_has (Err k) e = absurd cc

-- A record is read as a fault exactly if that is the fault of the first test that fails.
pub fault_iff : (n : ℕ) (fields : List (List ℕ)) (k : TraceKind) → (row_of n fields ≡ Err k) ↔ (first_failing (tests_of_row n fields) ≡ Some k)
fault_iff n fields k = (λ e. sym (row_fault n fields) ∙ ap fault_in e, λ e. err_has (row_of n fields) k (row_fault n fields ∙ e))

-- No test fails exactly if the record is the fields of a valid row.
pub none_iff : (n : ℕ) (fields : List (List ℕ)) → n < 2 ^ 16 → (first_failing (tests_of_row n fields) ≡ None) ↔ ((row : TraceRow) × IsRow n row × (fields ≡ fields_of_row row))
none_iff n fields lt = (
  λ e.
      let (row, read) = ok_has (row_of n fields) (row_fault n fields ∙ e) in
      let (is, text) = (row_iff n row fields lt).0 read in
      (row, is, text),
  λ h. let (row, is, text) = h in sym (row_fault n fields) ∙ ap fault_in ((row_iff n row fields lt).1 (is, text)),
)
