-- A record is read as the entry of a place exactly if its fields are the fields of that entry at that place.
use Rattle.std.proofs.Common.{◌≡◌, ◌↔◌, ℕ, ◌<◌, ◌≤◌, ◌^◌, Bool, true, false, List, [], ◌∷◌, ◌++◌, length, Result, Ok, Err, refl, ap, ◌∙◌, subst, arith}
use Rattle.std.specs.Prelude.{◌==◌, not, if◌then◌else◌, decimal, bytes_eq}
use Rattle.std.proofs.lemmas.Slice.Eq.{bytes_eq-Decides}
use Rattle.lock_modes.specs.declared.Mode.{Mode}
use Rattle.lock_modes.specs.Codes.{name_of}
use Rattle.lock_tree.proofs.Numerals.{reading_iff}
use Rattle.lock_rules.specs.declared.calls.Reply.{Reply}
use Rattle.lock_rules.specs.declared.calls.Reply.TheVariants as reply
use Rattle.lock_rules.specs.Entries.{Entry}
use Rattle.lock_trace.specs.declared.faults.TraceKind.{TraceKind}
use Rattle.lock_trace.specs.declared.faults.TraceKind.TheVariants as kind
use Rattle.lock_rules.specs.declared.kinds.ReplyKind.{ReplyKind}
use Rattle.lock_rules.specs.declared.kinds.ReplyKind.TheVariants as reply_kind
use Rattle.lock_trace.specs.declared.trace_row.TraceRow.{TraceRow}
use Rattle.lock_rules.specs.Kinds.{kind_of_reply, word_of_reply}
use Rattle.lock_trace.specs.Fields.{place_in, reply_kind_in, or_value, number_in, granted_in, mode_in, why_in, max_u64, max_u32}
use Rattle.lock_trace.specs.Rows.{fields_of_row, row_in, ◌>>=◌}
use Rattle.lock_trace.specs.Tests.{field_of}
use Rattle.lock_trace.specs.Entries.{IsReply, IsEntry, value_in, reply_in, with_reply, entry_in, entry_of}
use Rattle.lock_trace.specs.Histories.{value_field, fields_of_reply, row_of_entry, fields_of_entry}
use Rattle.lock_trace.proofs.Names.{reply_word_is, mode_is, mode_by_name, why_is, why_by_name}
use Rattle.lock_trace.proofs.RowLaws.{bind_ok, empty, read_row, row_back}

-- Places.

-- An `Ok` of a place test, with the fault type fixed.
abbrev at_place : Result (Unit {0}) TraceKind
at_place = Ok tt

-- A place field that passes is the decimal text of the place.
place_is : (place : ℕ) (field : List ℕ) (b : Bool) → bytes_eq field (decimal place) ≡ b → (if b then at_place else Err kind.Place) ≡ at_place → field ≡ decimal place
place_is place field true is e = (bytes_eq-Decides field (decimal place)).0 is
place_is place field false is e = absurd cc

-- The decimal text of a place passes.
pub place_back : (place : ℕ) → place_in place (decimal place) ≡ Ok tt
place_back place = rw ((bytes_eq-Decides (decimal place) (decimal place)).1 refl) refl

-- A place field passes exactly if it is the decimal text of the place.
pub place_iff : (place : ℕ) (field : List ℕ) → (place_in place field ≡ Ok tt) ↔ (field ≡ decimal place)
place_iff place field = (place_is place field (bytes_eq field (decimal place)) refl, λ e. ap (place_in place) e ∙ place_back place)

-- Values.

-- A value behind `or_value` was read without a fault.
or_value_ok : {A F : Type 0} (x : Result A F) (a : A) → or_value x ≡ Ok a → x ≡ Ok a
or_value_ok (Ok b) a e = cc
or_value_ok (Err f) a e = absurd cc

-- If a number is read, it is within the limit and the field is its decimal text.
number_is : (most n : ℕ) (v : List ℕ) → most < 2 ^ 64 → number_in most v ≡ Ok n → (n ≤ most) × (v ≡ decimal n)
number_is most n v lt e = (reading_iff v most n lt).0 (or_value_ok _ n e)

-- The decimal text of a number within the limit is read as that number.
number_back : (most n : ℕ) → most < 2 ^ 64 → n ≤ most → number_in most (decimal n) ≡ Ok n
number_back most n lt le = ap or_value ((reading_iff (decimal n) most n lt).1 (le, refl))

-- If a mode is read, the field is its name.
granted_is : (m : Mode) (v : List ℕ) → granted_in v ≡ Ok m → v ≡ name_of m
granted_is m v e = mode_is v m (or_value_ok (mode_in v) m e)

-- The name of a mode is read as that mode.
granted_back : (m : Mode) → granted_in (name_of m) ≡ Ok m
granted_back m = ap or_value (mode_by_name m (name_of m) refl)

-- An `Ok` of a reply, with the fault type fixed.
abbrev ok_reply : Reply → Result Reply TraceKind
ok_reply r = Ok r

-- That `Ok` is injective.
same_reply : (a b : Reply) → ok_reply a ≡ ok_reply b → a ≡ b
same_reply a b e = cc

-- The two fields are the word and the value of the reply, whose numbers are in range.
record AreReplyFields (w v : List ℕ) (r : Reply) : Type 0 where
  reply : IsReply r
  word : w ≡ word_of_reply (kind_of_reply r)
  value : v ≡ value_field r

-- If a reply without a value is read, the value field was empty; by cases.
without_cases : (w v : List ℕ) (a r : Reply) (b : Bool) → IsReply a → w ≡ word_of_reply (kind_of_reply a) → [] ≡ value_field a → (length v == 0) ≡ b → (if not b then Err kind.Value else ok_reply a) ≡ ok_reply r → AreReplyFields w v r
without_cases w v a r true is word none no_v e = subst (AreReplyFields w v) (same_reply a r e) (record { reply = is; word = word; value = empty v no_v ∙ none })
without_cases w v a r false is word none no_v e = absurd cc

-- A number of at most the largest of 64 bits is below 2 ^ 64.
below_64 : (n : ℕ) → n ≤ max_u64 → n < 2 ^ 64
below_64 n le = omega (arith, le)

-- A number of at most the largest of 32 bits is below 2 ^ 32.
below_32 : (n : ℕ) → n ≤ max_u32 → n < 2 ^ 32
below_32 n le = omega (arith, le)

-- A number below 2 ^ 64 is at most the largest of 64 bits.
within_64 : (n : ℕ) → n < 2 ^ 64 → n ≤ max_u64
within_64 n lt = omega (arith, lt)

-- A number below 2 ^ 32 is at most the largest of 32 bits.
within_32 : (n : ℕ) → n < 2 ^ 32 → n ≤ max_u32
within_32 n lt = omega (arith, lt)

-- The largest number of 64 bits fits in 64 bits.
few_64 : max_u64 < 2 ^ 64
few_64 = omega arith

-- The largest number of 32 bits fits in 64 bits.
few_32 : max_u32 < 2 ^ 64
few_32 = omega arith

-- If the value of a kind of reply is read, the fields are the word and the value of the reply.
read_value : (t : ReplyKind) (w v : List ℕ) (r : Reply) → w ≡ word_of_reply t → value_in t v ≡ Ok r → AreReplyFields w v r
read_value reply_kind.Began w v r word e =
    let (n, read, is) = bind_ok (number_in max_u64 v) (λ n. ok_reply (reply.Began n)) r e in
    let of = number_is max_u64 n v few_64 read in
    subst (AreReplyFields w v) (same_reply (reply.Began n) r is) (record { reply = below_64 n of.0; word = word; value = of.1 })
read_value reply_kind.Granted w v r word e =
    let (m, read, is) = bind_ok (granted_in v) (λ m. ok_reply (reply.Granted m)) r e in
    subst (AreReplyFields w v) (same_reply (reply.Granted m) r is) (record { reply = tt; word = word; value = granted_is m v read })
read_value reply_kind.Waiting w v r word e = without_cases w v reply.Waiting r (length v == 0) tt word refl refl e
read_value reply_kind.Deadlock w v r word e = without_cases w v reply.Deadlock r (length v == 0) tt word refl refl e
read_value reply_kind.Clear w v r word e = without_cases w v reply.Clear r (length v == 0) tt word refl refl e
read_value reply_kind.Released w v r word e = without_cases w v reply.Released r (length v == 0) tt word refl refl e
read_value reply_kind.Withdrawn w v r word e = without_cases w v reply.Withdrawn r (length v == 0) tt word refl refl e
read_value reply_kind.Committed w v r word e =
    let (n, read, is) = bind_ok (number_in max_u32 v) (λ n. ok_reply (reply.Committed n)) r e in
    let of = number_is max_u32 n v few_32 read in
    subst (AreReplyFields w v) (same_reply (reply.Committed n) r is) (record { reply = below_32 n of.0; word = word; value = of.1 })
read_value reply_kind.Aborted w v r word e =
    let (n, read, is) = bind_ok (number_in max_u32 v) (λ n. ok_reply (reply.Aborted n)) r e in
    let of = number_is max_u32 n v few_32 read in
    subst (AreReplyFields w v) (same_reply (reply.Aborted n) r is) (record { reply = below_32 n of.0; word = word; value = of.1 })
read_value reply_kind.Restarted w v r word e =
    let (n, read, is) = bind_ok (number_in max_u32 v) (λ n. ok_reply (reply.Restarted n)) r e in
    let of = number_is max_u32 n v few_32 read in
    subst (AreReplyFields w v) (same_reply (reply.Restarted n) r is) (record { reply = below_32 n of.0; word = word; value = of.1 })
read_value reply_kind.Refused w v r word e =
    let (why, read, is) = bind_ok (why_in v) (λ why. ok_reply (reply.Refused why)) r e in
    subst (AreReplyFields w v) (same_reply (reply.Refused why) r is) (record { reply = tt; word = word; value = why_is v why read })

-- If a reply is read, the fields are its word and its value.
read_reply : (w v : List ℕ) (r : Reply) → reply_in w v ≡ Ok r → AreReplyFields w v r
read_reply w v r e =
    let (t, read, then_value) = bind_ok (reply_kind_in w) (λ t. value_in t v) r e in
    read_value t w v r (reply_word_is w t read) then_value

-- The word and the value of a reply are read as that reply.
pub reply_back : (r : Reply) → IsReply r → reply_in (word_of_reply (kind_of_reply r)) (value_field r) ≡ Ok r
reply_back (reply.Began n) is = rw (number_back max_u64 n few_64 (within_64 n is)) refl
reply_back (reply.Granted m) is = rw (granted_back m) refl
reply_back reply.Waiting is = refl
reply_back reply.Deadlock is = refl
reply_back reply.Clear is = refl
reply_back reply.Released is = refl
reply_back reply.Withdrawn is = refl
reply_back (reply.Committed n) is = rw (number_back max_u32 n few_32 (within_32 n is)) refl
reply_back (reply.Aborted n) is = rw (number_back max_u32 n few_32 (within_32 n is)) refl
reply_back (reply.Restarted n) is = rw (number_back max_u32 n few_32 (within_32 n is)) refl
reply_back (reply.Refused w) is = rw (why_by_name w _ refl) refl

-- Equal words and values make equal pairs of fields.
both : (w v w' v' : List ℕ) → w ≡ w' → v ≡ v' → (w ∷ v ∷ []) ≡ (w' ∷ v' ∷ [])
both w v w' v' e f = rw (e, f) refl

-- The two fields of a reply are read as that reply.
parts_back : (w v : List ℕ) (r : Reply) → IsReply r → (w ∷ v ∷ []) ≡ fields_of_reply r → reply_in w v ≡ Ok r
parts_back w v r is e =
    let word : w ≡ word_of_reply (kind_of_reply r) = cc in
    let value : v ≡ value_field r = cc in
    rw (word, value) (reply_back r is)

-- Two fields are read as a reply exactly if they are the fields of that reply and its numbers are in range.
pub reply_iff : (w v : List ℕ) (r : Reply) → (reply_in w v ≡ Ok r) ↔ (IsReply r × ((w ∷ v ∷ []) ≡ fields_of_reply r))
reply_iff w v r = (
  λ e. let of = read_reply w v r e in (of.reply, both w v _ _ of.word of.value),
  λ h. parts_back w v r h.0 h.1,
)

-- Entries.

-- An `Ok` of an entry, with the fault type fixed.
abbrev ok_entry : Entry → Result Entry TraceKind
ok_entry e = Ok e

-- That `Ok` is injective.
same_entry : (a b : Entry) → ok_entry a ≡ ok_entry b → a ≡ b
same_entry a b e = cc

-- A place field, the fields of a row and the fields of a reply are the seven fields of an entry.
joined : (p p' s o r m w v : List ℕ) (row : TraceRow) (answer : Reply) → p ≡ p' → (s ∷ o ∷ r ∷ m ∷ []) ≡ fields_of_row row → (w ∷ v ∷ []) ≡ fields_of_reply answer
    → (p ∷ s ∷ o ∷ r ∷ m ∷ w ∷ v ∷ []) ≡ (p' ∷ (fields_of_row row ++ fields_of_reply answer))
joined p p' s o r m w v row answer place fields reply =
    ap (λ (x : List ℕ). x ∷ s ∷ o ∷ r ∷ m ∷ w ∷ v ∷ []) place
    ∙ ap (λ (fs : List (List ℕ)). p' ∷ (fs ++ (w ∷ v ∷ []))) fields
    ∙ ap (λ (fs : List (List ℕ)). p' ∷ (fields_of_row row ++ fs)) reply

-- If an entry is read from seven fields, the entry is valid and these are its fields at that place.
read_entry : (n place : ℕ) (p s o r m w v : List ℕ) (e : Entry) → n < 2 ^ 16 → entry_in n place p s o r m w v ≡ Ok e → IsEntry n e × ((p ∷ s ∷ o ∷ r ∷ m ∷ w ∷ v ∷ []) ≡ fields_of_entry place e)
read_entry n place p s o r m w v e lt is =
    let (here, read_p, then_row) = bind_ok (place_in place p) (λ here. row_in n s o r m >>= (λ row. reply_in w v >>= (λ answer. ok_entry (with_reply row answer)))) e is in
    let (row, read_r, then_reply) = bind_ok (row_in n s o r m) (λ row. reply_in w v >>= (λ answer. ok_entry (with_reply row answer))) e then_row in
    let (answer, read_a, is_ok) = bind_ok (reply_in w v) (λ answer. ok_entry (with_reply row answer)) e then_reply in
    let at = (place_iff place p).0 read_p in
    let has = read_row n s o r m row lt read_r in
    let told = (reply_iff w v answer).0 read_a in
    let P : Entry → Type 0 = λ x. IsEntry n x × ((p ∷ s ∷ o ∷ r ∷ m ∷ w ∷ v ∷ []) ≡ fields_of_entry place x) in
    subst P (same_entry (with_reply row answer) e is_ok) (
      record { first = has.0.first; last = has.0.last; resources = has.0.resources; reply = told.0 },
      joined p (decimal place) s o r m w v row answer at has.1 told.1,
    )

-- If an entry is read from a record, the entry is valid and the record is its fields at that place.
entry_fields : (n place : ℕ) (e : Entry) (fields : List (List ℕ)) → n < 2 ^ 16 → entry_of n place fields ≡ Ok e → IsEntry n e × (fields ≡ fields_of_entry place e)
entry_fields n place e [] lt is = absurd cc
entry_fields n place e (p ∷ []) lt is = absurd cc
entry_fields n place e (p ∷ s ∷ []) lt is = absurd cc
entry_fields n place e (p ∷ s ∷ o ∷ []) lt is = absurd cc
entry_fields n place e (p ∷ s ∷ o ∷ r ∷ []) lt is = absurd cc
entry_fields n place e (p ∷ s ∷ o ∷ r ∷ m ∷ []) lt is = absurd cc
entry_fields n place e (p ∷ s ∷ o ∷ r ∷ m ∷ w ∷ []) lt is = absurd cc
entry_fields n place e (p ∷ s ∷ o ∷ r ∷ m ∷ w ∷ v ∷ []) lt is = read_entry n place p s o r m w v e lt is
entry_fields n place e (p ∷ s ∷ o ∷ r ∷ m ∷ w ∷ v ∷ x ∷ xs) lt is = absurd cc

-- The fields of a valid entry at a place are read as that entry.
entry_back : (n place : ℕ) (e : Entry) → n < 2 ^ 16 → IsEntry n e → entry_of n place (fields_of_entry place e) ≡ Ok e
entry_back n place e lt is =
    let row = row_back n (row_of_entry e) lt (record { first = is.first; last = is.last; resources = is.resources }) in
    rw (place_back place, row, reply_back e.reply is.reply) refl

-- A record is read as the entry of a place exactly if the entry is valid and the record is its fields at that
-- place.
pub entry_iff : (n place : ℕ) (e : Entry) (fields : List (List ℕ)) → n < 2 ^ 16 → (entry_of n place fields ≡ Ok e) ↔ (IsEntry n e × (fields ≡ fields_of_entry place e))
entry_iff n place e fields lt = (entry_fields n place e fields lt, λ h. ap (entry_of n place) h.1 ∙ entry_back n place e lt h.0)

-- Reading a record of seven fields is reading its fields 0 to 6.
pub seven : (n place : ℕ) (fs : List (List ℕ)) → length fs ≡ 7
    → entry_in n place (field_of fs 0) (field_of fs 1) (field_of fs 2) (field_of fs 3) (field_of fs 4) (field_of fs 5) (field_of fs 6) ≡ entry_of n place fs
seven n place [] len = absurd (omega (arith, len))
seven n place (a ∷ []) len = absurd (omega (arith, len))
seven n place (a ∷ b ∷ []) len = absurd (omega (arith, len))
seven n place (a ∷ b ∷ c ∷ []) len = absurd (omega (arith, len))
seven n place (a ∷ b ∷ c ∷ d ∷ []) len = absurd (omega (arith, len))
seven n place (a ∷ b ∷ c ∷ d ∷ e ∷ []) len = absurd (omega (arith, len))
seven n place (a ∷ b ∷ c ∷ d ∷ e ∷ f ∷ []) len = absurd (omega (arith, len))
seven n place (a ∷ b ∷ c ∷ d ∷ e ∷ f ∷ g ∷ []) len = refl
seven n place (a ∷ b ∷ c ∷ d ∷ e ∷ f ∷ g ∷ h ∷ hs) len = absurd (omega (arith, len))
