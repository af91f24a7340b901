-- Reading a history row fails with the first of its tests that fails.
use Rattle.std.proofs.Common.{◌≡◌, ◌↔◌, ℕ, ◌<◌, ◌^◌, Bool, true, false, List, [], ◌∷◌, ◌++◌, length, Option, Some, None, Result, Ok, Err, refl, sym, ap, ◌∙◌, arith, ne_eqb}
use Rattle.std.specs.Prelude.{◌==◌, ◌||◌, not, if◌then◌else◌, is_some, bytes_eq, decimal}
use Rattle.lock_modes.specs.Codes.{name_of}
use Rattle.lock_tree.specs.declared.numeral.NumeralFault.{NumeralFault}
use Rattle.lock_tree.specs.Numerals.{number_of, fault_of_numeral, ok_unless}
use Rattle.lock_rules.specs.declared.calls.Reply.{Reply}
use Rattle.lock_rules.specs.declared.calls.Reply.TheVariants as reply
use Rattle.lock_rules.specs.Entries.{Entry}
use Rattle.lock_rules.specs.Names.{name_of_why}
use Rattle.lock_trace.specs.declared.faults.TraceKind.{TraceKind}
use Rattle.lock_trace.specs.declared.faults.TraceKind.TheVariants as kind
use Rattle.lock_rules.specs.declared.kinds.ReplyKind.{ReplyKind}
use Rattle.lock_rules.specs.declared.kinds.ReplyKind.TheVariants as reply_kind
use Rattle.lock_modes.specs.declared.TheConstants.{MODES}
use Rattle.lock_rules.specs.declared.kinds.TheConstants.{REPLY_KINDS, REFUSALS}
use Rattle.lock_rules.specs.Kinds.{word_of_reply}
use Rattle.lock_trace.specs.Fields.{place_in, reply_kind_in, or_value, number_in, granted_in, mode_in, why_in, max_u64, max_u32}
use Rattle.lock_trace.specs.Rows.{row_in, ◌>>=◌}
use Rattle.lock_trace.specs.Entries.{IsEntry, value_in, reply_in, with_reply, entry_in, entry_of}
use Rattle.lock_trace.specs.Histories.{fields_of_entry}
use Rattle.lock_trace.specs.Tests.{is_numeral, is_mode, is_why, has_form_of, is_value, is_reply_word, tests_of_reply, tests_of_fields, tests_of_entry, first_failing}
use Rattle.lock_trace.proofs.Names.{reply_word_is}
use Rattle.lock_trace.proofs.TestLaws.{Agree, passes, fails, fault_in, then_tests, fault_after, named_agrees, fields_fault, err_has, ok_has}
use Rattle.lock_trace.proofs.EntryLaws.{entry_iff}

-- Values.

-- The test of a parsed number agrees with its reading.
numeral_agrees : (f : Option NumeralFault) (n : ℕ) → Agree kind.Value (not (is_some f)) (or_value (ok_unless f n))
numeral_agrees None n = passes n
numeral_agrees (Some f) n = fails

-- The test of a number in a value field agrees with its reading.
number_agrees : (most : ℕ) (v : List ℕ) → Agree kind.Value (is_numeral most v) (number_in most v)
number_agrees most v = numeral_agrees (fault_of_numeral most v) (number_of v)

-- A test that agrees with a reading agrees with it too if every fault becomes Value.
or_agrees : {A : Type 0} (k : TraceKind) (b : Bool) (x : Result A TraceKind) → Agree k b x → Agree kind.Value b (or_value x)
or_agrees k _ _ (passes a) = passes a
or_agrees k _ _ fails = fails

-- A test that agrees with a reading agrees with what is made of its result.
made_agrees : {A B : Type 0} (k : TraceKind) (b : Bool) (x : Result A TraceKind) (make : A → B) → Agree k b x → Agree k b (x >>= (λ a. Ok (make a)))
made_agrees k _ _ make (passes a) = passes (make a)
made_agrees k _ _ make fails = fails

-- The test for an empty value agrees with the reading of a reply without a value.
none_agrees : (r : Reply) (b : Bool) → Agree kind.Value b (if not b then Err kind.Value else Ok r)
none_agrees r true = passes r
none_agrees r false = fails

-- The test of a value's form agrees with the reading of the value, for each kind of reply.
form_agrees : (t : ReplyKind) (v : List ℕ) → Agree kind.Value (has_form_of t v) (value_in t v)
form_agrees reply_kind.Began v = made_agrees kind.Value (is_numeral max_u64 v) (number_in max_u64 v) (λ n. reply.Began n) (number_agrees max_u64 v)
form_agrees reply_kind.Granted v = made_agrees kind.Value (is_mode v) (granted_in v) (λ m. reply.Granted m) (or_agrees kind.Mode (is_mode v) (mode_in v) (named_agrees name_of kind.Mode MODES v))
form_agrees reply_kind.Waiting v = none_agrees reply.Waiting (length v == 0)
form_agrees reply_kind.Deadlock v = none_agrees reply.Deadlock (length v == 0)
form_agrees reply_kind.Clear v = none_agrees reply.Clear (length v == 0)
form_agrees reply_kind.Released v = none_agrees reply.Released (length v == 0)
form_agrees reply_kind.Committed v = made_agrees kind.Value (is_numeral max_u32 v) (number_in max_u32 v) (λ n. reply.Committed n) (number_agrees max_u32 v)
form_agrees reply_kind.Aborted v = made_agrees kind.Value (is_numeral max_u32 v) (number_in max_u32 v) (λ n. reply.Aborted n) (number_agrees max_u32 v)
form_agrees reply_kind.Refused v = made_agrees kind.Value (is_why v) (why_in v) (λ w. reply.Refused w) (named_agrees name_of_why kind.Value REFUSALS v)
form_agrees reply_kind.Withdrawn v = none_agrees reply.Withdrawn (length v == 0)
form_agrees reply_kind.Restarted v = made_agrees kind.Value (is_numeral max_u32 v) (number_in max_u32 v) (λ n. reply.Restarted n) (number_agrees max_u32 v)

-- `b || false` is `b`.
or_false : (b : Bool) → (b || false) ≡ b
or_false true = refl
or_false false = refl

-- A value field with the word of a kind of reply is tested by the form of that kind.
value_is : (t : ReplyKind) (v : List ℕ) → is_value (word_of_reply t) v ≡ has_form_of t v
value_is reply_kind.Began v = or_false (is_numeral max_u64 v)
value_is reply_kind.Granted v = or_false (is_mode v)
value_is reply_kind.Waiting v = or_false (length v == 0)
value_is reply_kind.Deadlock v = or_false (length v == 0)
value_is reply_kind.Clear v = or_false (length v == 0)
value_is reply_kind.Released v = or_false (length v == 0)
value_is reply_kind.Committed v = or_false (is_numeral max_u32 v)
value_is reply_kind.Aborted v = or_false (is_numeral max_u32 v)
value_is reply_kind.Refused v = or_false (is_why v)
value_is reply_kind.Withdrawn v = or_false (length v == 0)
value_is reply_kind.Restarted v = or_false (is_numeral max_u32 v)

-- A reading that agrees with its only test has the fault of that test.
one_test : {A : Type 0} (k : TraceKind) (b : Bool) (x : Result A TraceKind) → Agree k b x → fault_in x ≡ first_failing ((not b, k) ∷ [])
one_test k _ _ (passes a) = refl
one_test k _ _ fails = refl

-- Reading a reply fails with the first of its tests that fails.
reply_fault : (w v : List ℕ) → fault_in (reply_in w v) ≡ first_failing (tests_of_reply w v)
reply_fault w v =
    then_tests kind.Reply (is_reply_word w) (reply_kind_in w) (λ t. value_in t v) ((not (is_value w v), kind.Value) ∷ []) (named_agrees word_of_reply kind.Reply REPLY_KINDS w)
    (λ t read.
    one_test kind.Value (has_form_of t v) (value_in t v) (form_agrees t v)
    ∙ ap (λ (b : Bool). first_failing ((not b, kind.Value) ∷ [])) (sym (value_is t v) ∙ ap (λ (x : List ℕ). is_value x v) (sym (reply_word_is w t read))))

-- Two lists of tests: the first list decides, or else the second.

-- If no test of the first list fails, the second list decides.
more_none : (ts us : List (Bool × TraceKind)) → first_failing ts ≡ None → first_failing (ts ++ us) ≡ first_failing us
more_none [] us e = refl
more_none ((true, k) ∷ ts) us e = absurd cc
more_none ((false, k) ∷ ts) us e = more_none ts us e

-- If a test of the first list fails, its fault is the fault of both lists.
more_some : (ts us : List (Bool × TraceKind)) (k : TraceKind) → first_failing ts ≡ Some k → first_failing (ts ++ us) ≡ Some k
more_some [] us k e = absurd cc
more_some ((true, j) ∷ ts) us k e = e
more_some ((false, j) ∷ ts) us k e = more_some ts us k e

-- If the first step fails with the first of some tests that fails, and the later steps with the first of other
-- tests that fails, then all steps fail with the first of all these tests that fails.
then_more : {A B : Type 0} (x : Result A TraceKind) (f : A → Result B TraceKind) (ts us : List (Bool × TraceKind))
    → fault_in x ≡ first_failing ts → ((a : A) → x ≡ Ok a → fault_in (f a) ≡ first_failing us) → fault_in (x >>= f) ≡ first_failing (ts ++ us)
then_more (Ok a) f ts us first later = later a refl ∙ sym (more_none ts us (sym first))
then_more (Err k) f ts us first later = sym (more_some ts us k (sym first))

-- An `Ok` of a place test, with the fault type fixed.
abbrev at_place : Result (Unit {0}) TraceKind
at_place = Ok tt

-- The test of a place agrees with its reading.
place_agrees : (b : Bool) → Agree kind.Place b (if b then at_place else Err kind.Place)
place_agrees true = passes tt
place_agrees false = fails

-- Reading seven fields fails with the first of their tests that fails.
seven_fault : (n place : ℕ) (p s o r m w v : List ℕ)
    → fault_in (entry_in n place p s o r m w v) ≡ first_failing ((not (bytes_eq p (decimal place)), kind.Place) ∷ (tests_of_fields n s o r m ++ tests_of_reply w v))
seven_fault n place p s o r m w v =
    then_tests kind.Place (bytes_eq p (decimal place)) (place_in place p) (λ here. row_in n s o r m >>= (λ row. reply_in w v >>= (λ answer. Ok (with_reply row answer)))) (tests_of_fields n s o r m ++ tests_of_reply w v)
    (place_agrees (bytes_eq p (decimal place)))
    (λ here read.
    then_more (row_in n s o r m) (λ row. reply_in w v >>= (λ answer. Ok (with_reply row answer))) (tests_of_fields n s o r m) (tests_of_reply w v) (fields_fault n s o r m)
    (λ row read_row. fault_after (reply_in w v) (with_reply row) ∙ reply_fault w v))

-- Reading a record as a history row fails with the first test that fails.
entry_fault : (n place : ℕ) (fields : List (List ℕ)) → fault_in (entry_of n place fields) ≡ first_failing (tests_of_entry n place fields)
entry_fault n place [] = refl
entry_fault n place (p ∷ []) = refl
entry_fault n place (p ∷ s ∷ []) = refl
entry_fault n place (p ∷ s ∷ o ∷ []) = refl
entry_fault n place (p ∷ s ∷ o ∷ r ∷ []) = refl
entry_fault n place (p ∷ s ∷ o ∷ r ∷ m ∷ []) = refl
entry_fault n place (p ∷ s ∷ o ∷ r ∷ m ∷ w ∷ []) = refl
entry_fault n place (p ∷ s ∷ o ∷ r ∷ m ∷ w ∷ v ∷ []) = seven_fault n place p s o r m w v
entry_fault n place (p ∷ s ∷ o ∷ r ∷ m ∷ w ∷ v ∷ x ∷ xs) =
    let more : (length (p ∷ s ∷ o ∷ r ∷ m ∷ w ∷ v ∷ x ∷ xs) == 7) ≡ false = ne_eqb (length (p ∷ s ∷ o ∷ r ∷ m ∷ w ∷ v ∷ x ∷ xs)) 7 (λ e. omega (arith, e)) in
    rw more refl

-- A record is read as a fault exactly if that is the fault of the first test that fails.
pub entry_fault_iff : (n place : ℕ) (fields : List (List ℕ)) (k : TraceKind) → (entry_of n place fields ≡ Err k) ↔ (first_failing (tests_of_entry n place fields) ≡ Some k)
entry_fault_iff n place fields k = (λ e. sym (entry_fault n place fields) ∙ ap fault_in e, λ e. err_has (entry_of n place fields) k (entry_fault n place fields ∙ e))

-- No test fails exactly if the record is the fields of a valid entry at that place.
pub entry_none_iff : (n place : ℕ) (fields : List (List ℕ)) → n < 2 ^ 16 → (first_failing (tests_of_entry n place fields) ≡ None) ↔ ((e : Entry) × IsEntry n e × (fields ≡ fields_of_entry place e))
entry_none_iff n place fields lt = (
  λ none.
      let (e, read) = ok_has (entry_of n place fields) (entry_fault n place fields ∙ none) in
      let (is, text) = (entry_iff n place e fields lt).0 read in
      (e, is, text),
  λ h. let (e, is, text) = h in sym (entry_fault n place fields) ∙ ap fault_in ((entry_iff n place e fields lt).1 (is, text)),
)
