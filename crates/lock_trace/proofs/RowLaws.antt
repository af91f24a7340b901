-- A record is read as a trace row exactly if its fields are the fields of that row.
use Rattle.std.proofs.Common.{◌≡◌, ◌↔◌, ℕ, ◌<◌, ◌≤◌, ◌^◌, Bool, true, false, List, [], ◌∷◌, length, Result, Ok, Err, refl, sym, ap, ◌∙◌, subst, arith, ne_eqb}
use Rattle.std.specs.Prelude.{◌==◌, ◌||◌, not, if◌then◌else◌, decimal}
use Rattle.lock_modes.specs.declared.Mode.{Mode}
use Rattle.lock_modes.specs.Codes.{name_of}
use Rattle.lock_tree.specs.Paths.{IsResource}
use Rattle.lock_tree.specs.Text.{text_of}
use Rattle.lock_rules.specs.declared.calls.Call.{Call}
use Rattle.lock_rules.specs.declared.calls.Call.TheVariants as call
use Rattle.lock_trace.specs.declared.faults.TraceKind.{TraceKind}
use Rattle.lock_trace.specs.declared.faults.TraceKind.TheVariants as kind
use Rattle.lock_rules.specs.declared.kinds.Op.{Op}
use Rattle.lock_rules.specs.declared.kinds.Op.TheVariants as op
use Rattle.lock_rules.specs.Kinds.{word_of}
use Rattle.lock_trace.specs.declared.trace_row.TraceRow.{TraceRow}
use Rattle.lock_trace.specs.Fields.{session_in, op_in, resource_in, mode_in}
use Rattle.lock_trace.specs.Tests.{field_of}
use Rattle.lock_trace.specs.Rows.{fields_of_call, fields_of_row, HasResources, IsRow, ◌>>=◌, without_fields, resource_and_mode_in, call_in, row_in, row_of}
use Rattle.lock_trace.proofs.Names.{op_is, mode_is, mode_by_name}
use Rattle.lock_trace.proofs.Resources.{resource_iff, resource_back}
use Rattle.lock_trace.proofs.Sessions.{session_iff, session_back}

-- If two steps succeed, the first succeeds, and the second succeeds on its result.
pub bind_ok : {A B : Type 0} (x : Result A TraceKind) (f : A → Result B TraceKind) (b : B) → (x >>= f) ≡ Ok b → (a : A) × (x ≡ Ok a) × (f a ≡ Ok b)
bind_ok (Ok a) f b e = (a, refl, e)
bind_ok (Err k) f b e = absurd cc

-- An `Ok` of a call, with the fault type fixed.
abbrev ok_call : Call → Result Call TraceKind
ok_call c = Ok c

-- A list of length 0 is empty.
pub empty : (xs : List ℕ) → (length xs == 0) ≡ true → xs ≡ []
empty [] e = refl
empty (x ∷ xs) e =
    let not_none : (length (x ∷ xs) == 0) ≡ false = ne_eqb (length (x ∷ xs)) 0 (λ none. omega (arith, none)) in
    let bad : true ≡ false = sym e ∙ not_none in
    absurd cc

-- If a call without fields is read, both fields were empty; by cases.
bare_cases : (a b : Bool) (c : Call) (r m : List ℕ) (d : Call) → (length r == 0) ≡ a → (length m == 0) ≡ b → (if not a || not b then Err kind.Extra else ok_call c) ≡ ok_call d → (r ≡ []) × (m ≡ []) × (c ≡ d)
bare_cases true true c r m d no_r no_m e = (empty r no_r, empty m no_m, cc)
bare_cases true false c r m d no_r no_m e = absurd cc
bare_cases false true c r m d no_r no_m e = absurd cc
bare_cases false false c r m d no_r no_m e = absurd cc

-- If a call without fields is read, both fields were empty.
bare_has : (c : Call) (r m : List ℕ) (d : Call) → without_fields c r m ≡ Ok d → (r ≡ []) × (m ≡ []) × (c ≡ d)
bare_has c r m d e = bare_cases (length r == 0) (length m == 0) c r m d refl refl e

-- Equal second and third fields make equal records of three fields.
three : (a b b' c c' : List ℕ) → b ≡ b' → c ≡ c' → (a ∷ b ∷ c ∷ []) ≡ (a ∷ b' ∷ c' ∷ [])
three a b b' c c' e f = rw (e, f) refl

-- Equal first and second fields make equal records.
two : (a a' b b' : List ℕ) (cs : List (List ℕ)) → a ≡ a' → b ≡ b' → (a ∷ b ∷ cs) ≡ (a' ∷ b' ∷ cs)
two a a' b b' cs e f = rw (e, f) refl

-- If a call without a mode is read, the mode field was empty.
none_after : (b : Bool) (m : List ℕ) (c d : Call) → (length m == 0) ≡ b → (if not b then Err kind.Extra else ok_call c) ≡ ok_call d → (m ≡ []) × (c ≡ d)
none_after true m c d no_m e = (empty m no_m, cc)
none_after false m c d no_m e = absurd cc

-- A call without a resource and a mode is read from its own fields only.
call_without_fields : (w : List ℕ) (c : Call) (r m : List ℕ) (d : Call) → HasResources c → (w ∷ [] ∷ [] ∷ []) ≡ fields_of_call c → without_fields c r m ≡ Ok d → HasResources d × ((w ∷ r ∷ m ∷ []) ≡ fields_of_call d)
call_without_fields w c r m d has fields e =
    let (no_r, no_m, is) = bare_has c r m d e in
    let P : Call → Type 0 = λ x. HasResources x × ((w ∷ r ∷ m ∷ []) ≡ fields_of_call x) in
    subst P is (has, three w r [] m [] no_r no_m ∙ fields)

-- An `Ok` of a resource and a mode, with the fault type fixed.
abbrev ok_both : List ℕ × Mode → Result (List ℕ × Mode) TraceKind
ok_both x = Ok x

-- That `Ok` is injective.
same_both : (a b : List ℕ × Mode) → ok_both a ≡ ok_both b → a ≡ b
same_both a b e = cc

-- The two fields are the path of the resource and the name of the mode.
record AreTexts (r m : List ℕ) (asked : List ℕ × Mode) : Type 0 where
  resource : IsResource asked.0
  path : r ≡ text_of asked.0
  mode : m ≡ name_of asked.1

-- If a resource and a mode are read, the fields are their texts.
read_both : (r m : List ℕ) (asked : List ℕ × Mode) → resource_and_mode_in r m ≡ Ok asked → AreTexts r m asked
read_both r m asked e =
    let (resource, read_r, then_mode) = bind_ok (resource_in r) (λ resource. mode_in m >>= (λ mode. ok_both (resource, mode))) asked e in
    let (mode, read_m, is_ok) = bind_ok (mode_in m) (λ mode. ok_both (resource, mode)) asked then_mode in
    let at = (resource_iff resource r).0 read_r in
    subst (AreTexts r m) (same_both (resource, mode) asked is_ok) (record { resource = at.0; path = at.1; mode = mode_is m mode read_m })

-- If a call is read, the three fields are the fields of that call, and any resource in it is valid.
read_call : (o : Op) (r m : List ℕ) (c : Call) → call_in o r m ≡ Ok c → HasResources c × ((word_of o ∷ r ∷ m ∷ []) ≡ fields_of_call c)
read_call op.Begin r m c e = call_without_fields (word_of op.Begin) call.Begin r m c tt refl e
read_call op.Poll r m c e = call_without_fields (word_of op.Poll) call.Poll r m c tt refl e
read_call op.Commit r m c e = call_without_fields (word_of op.Commit) call.Commit r m c tt refl e
read_call op.Abort r m c e = call_without_fields (word_of op.Abort) call.Abort r m c tt refl e
read_call op.Withdraw r m c e = call_without_fields (word_of op.Withdraw) call.Withdraw r m c tt refl e
read_call op.Restart r m c e = call_without_fields (word_of op.Restart) call.Restart r m c tt refl e
read_call op.Try r m c e =
    let (asked, read, is_ok) = bind_ok (resource_and_mode_in r m) (λ asked. ok_call (call.Try asked.0 asked.1)) c e in
    let is : call.Try asked.0 asked.1 ≡ c = cc in
    let are = read_both r m asked read in
    let P : Call → Type 0 = λ d. HasResources d × ((word_of op.Try ∷ r ∷ m ∷ []) ≡ fields_of_call d) in
    subst P is (are.resource, three (word_of op.Try) r (text_of asked.0) m (name_of asked.1) are.path are.mode)
read_call op.Lock r m c e =
    let (asked, read, is_ok) = bind_ok (resource_and_mode_in r m) (λ asked. ok_call (call.Lock asked.0 asked.1)) c e in
    let is : call.Lock asked.0 asked.1 ≡ c = cc in
    let are = read_both r m asked read in
    let P : Call → Type 0 = λ d. HasResources d × ((word_of op.Lock ∷ r ∷ m ∷ []) ≡ fields_of_call d) in
    subst P is (are.resource, three (word_of op.Lock) r (text_of asked.0) m (name_of asked.1) are.path are.mode)
read_call op.Convert r m c e =
    let (asked, read, is_ok) = bind_ok (resource_and_mode_in r m) (λ asked. ok_call (call.Convert asked.0 asked.1)) c e in
    let is : call.Convert asked.0 asked.1 ≡ c = cc in
    let are = read_both r m asked read in
    let P : Call → Type 0 = λ d. HasResources d × ((word_of op.Convert ∷ r ∷ m ∷ []) ≡ fields_of_call d) in
    subst P is (are.resource, three (word_of op.Convert) r (text_of asked.0) m (name_of asked.1) are.path are.mode)
read_call op.Release r m c e =
    let (resource, read_r, then_none) = bind_ok (resource_in r) (λ resource. if not (length m == 0) then Err kind.Extra else ok_call (call.Release resource)) c e in
    let (no_m, is) = none_after (length m == 0) m (call.Release resource) c refl then_none in
    let at = (resource_iff resource r).0 read_r in
    let P : Call → Type 0 = λ d. HasResources d × ((word_of op.Release ∷ r ∷ m ∷ []) ≡ fields_of_call d) in
    subst P is (at.0, three (word_of op.Release) r (text_of resource) m [] at.1 no_m)

-- An `Ok` of a row, with the fault type fixed.
abbrev ok_row : TraceRow → Result TraceRow TraceKind
ok_row x = Ok x

-- That `Ok` is injective.
same_row : (a b : TraceRow) → ok_row a ≡ ok_row b → a ≡ b
same_row a b e = cc

-- If a row is read from four fields, the row is valid and these are its fields.
pub read_row : (n : ℕ) (s o r m : List ℕ) (row : TraceRow) → n < 2 ^ 16 → row_in n s o r m ≡ Ok row → IsRow n row × ((s ∷ o ∷ r ∷ m ∷ []) ≡ fields_of_row row)
read_row n s o r m row lt e =
    let (session, read_s, then_op) = bind_ok (session_in n s) (λ session. op_in o >>= (λ asked. call_in asked r m >>= (λ made. Ok (record { session = session; call = made })))) row e in
    let (asked, read_o, then_call) = bind_ok (op_in o) (λ asked. call_in asked r m >>= (λ made. Ok (record { session = session; call = made }))) row then_op in
    let (made, read_c, is_ok) = bind_ok (call_in asked r m) (λ made. Ok (record { session = session; call = made })) row then_call in
    let made_row : TraceRow = record { session = session; call = made } in
    let is : made_row ≡ row = same_row made_row row is_ok in
    let text = (session_iff n session s lt).0 read_s in
    let has = read_call asked r m made read_c in
    let P : TraceRow → Type 0 = λ x. IsRow n x × ((s ∷ o ∷ r ∷ m ∷ []) ≡ fields_of_row x) in
    subst P is (
      record { first = text.first; last = text.last; resources = has.0 },
      two s (decimal session) o (word_of asked) (r ∷ m ∷ []) text.text (op_is o asked read_o) ∙ ap (λ (fs : List (List ℕ)). decimal session ∷ fs) has.1,
    )

-- If a row is read from a record, the row is valid and the record is its fields.
row_fields : (n : ℕ) (fields : List (List ℕ)) (row : TraceRow) → n < 2 ^ 16 → row_of n fields ≡ Ok row → IsRow n row × (fields ≡ fields_of_row row)
row_fields n [] row lt e = absurd cc
row_fields n (s ∷ []) row lt e = absurd cc
row_fields n (s ∷ o ∷ []) row lt e = absurd cc
row_fields n (s ∷ o ∷ r ∷ []) row lt e = absurd cc
row_fields n (s ∷ o ∷ r ∷ m ∷ []) row lt e = read_row n s o r m row lt e
row_fields n (s ∷ o ∷ r ∷ m ∷ x ∷ xs) row lt e = absurd cc

-- The fields of a valid session and call are read as their row.
fields_row : (n s : ℕ) (c : Call) → n < 2 ^ 16 → 0 < s → s ≤ n → HasResources c → row_of n (decimal s ∷ fields_of_call c) ≡ Ok (record { session = s; call = c })
fields_row n s call.Begin lt some le has = rw (session_back n s lt some le) refl
fields_row n s (call.Lock r m) lt some le has = rw (session_back n s lt some le, resource_back r has, mode_by_name m (name_of m) refl) refl
fields_row n s (call.Convert r m) lt some le has = rw (session_back n s lt some le, resource_back r has, mode_by_name m (name_of m) refl) refl
fields_row n s call.Poll lt some le has = rw (session_back n s lt some le) refl
fields_row n s (call.Release r) lt some le has = rw (session_back n s lt some le, resource_back r has) refl
fields_row n s call.Commit lt some le has = rw (session_back n s lt some le) refl
fields_row n s call.Abort lt some le has = rw (session_back n s lt some le) refl
fields_row n s (call.Try r m) lt some le has = rw (session_back n s lt some le, resource_back r has, mode_by_name m (name_of m) refl) refl
fields_row n s call.Withdraw lt some le has = rw (session_back n s lt some le) refl
fields_row n s call.Restart lt some le has = rw (session_back n s lt some le) refl

-- The fields of a valid row are read as that row.
pub row_back : (n : ℕ) (row : TraceRow) → n < 2 ^ 16 → IsRow n row → row_of n (fields_of_row row) ≡ Ok row
row_back n row lt is = fields_row n row.session row.call lt is.first is.last is.resources

-- A record is read as a row exactly if the row is valid and the record is its fields.
pub row_iff : (n : ℕ) (row : TraceRow) (fields : List (List ℕ)) → n < 2 ^ 16 → (row_of n fields ≡ Ok row) ↔ (IsRow n row × (fields ≡ fields_of_row row))
row_iff n row fields lt = (row_fields n fields row lt, λ h. ap (row_of n) h.1 ∙ row_back n row lt h.0)

-- Reading a record of four fields is reading its fields 0 to 3.
pub four : (n : ℕ) (fs : List (List ℕ)) → length fs ≡ 4 → row_in n (field_of fs 0) (field_of fs 1) (field_of fs 2) (field_of fs 3) ≡ row_of n fs
four n [] len = absurd (omega (arith, len))
four n (x ∷ []) len = absurd (omega (arith, len))
four n (x ∷ y ∷ []) len = absurd (omega (arith, len))
four n (x ∷ y ∷ z ∷ []) len = absurd (omega (arith, len))
four n (x ∷ y ∷ z ∷ w ∷ []) len = refl
four n (x ∷ y ∷ z ∷ w ∷ v ∷ vs) len = absurd (omega (arith, len))
