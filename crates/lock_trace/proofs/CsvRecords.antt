-- csv reads exactly the records of a text.
use Rattle.std.proofs.Common.{◌≡◌, ◌⊎◌, ℕ, List, [], ◌∷◌, ◌++◌, Some, None, refl, ap, ◌∙◌, inl, inr}
use Rattle.std.proofs.lemmas.Bool.{cases_Bool}
use Rattle.csv.specs.Machine.{Read, step, is_end, ends_at_end, fields_after, field_after, next_record}
use Rattle.csv.specs.Reading.{default_config, strip_bom, Reached, AreRecords}
use Rattle.csv.specs.declared.parser.State.{State}
use Rattle.csv.specs.declared.parser.State.TheVariants as st
use Rattle.lock_trace.specs.Records.{records_on, records_of}
use Rattle.lock_trace.proofs.RecordSteps.{after_next}

-- Records that csv reaches, with none after them, are the records of the text.
reached_all : (s : State) (xs : List ℕ) (rows : List (List (List ℕ))) (s2 : State) (ys : List ℕ) → Reached default_config s xs rows s2 ys → next_record default_config s2 [] [] ys ≡ None → records_on s [] [] xs ≡ rows
unfolding Reached
reached_all s xs [] s2 ys r end = after_next s [] [] xs ∙ rw (r.0, r.1, end) refl
reached_all s xs (row ∷ rows) s2 ys r end =
    let (p, next, is, more) = r in
    after_next s [] [] xs ∙ rw (next, is) (ap (λ (rs : List (List (List ℕ))). p.0 ∷ rs) (reached_all p.1 p.2 rows s2 ys more end))

-- Whatever list of records csv reads from a text is the list of its records.
pub only_records : (bytes : List ℕ) (rows : List (List (List ℕ))) → AreRecords default_config st.StartRecord (strip_bom bytes) rows → records_of bytes ≡ rows
only_records bytes rows are = let (s2, ys, reached, end) = are in reached_all st.StartRecord (strip_bom bytes) rows s2 ys reached end

-- There is a next record, and csv reads all the records after it.
record HasNext (s : State) (f : List (List ℕ)) (p xs : List ℕ) : Type 0 where
  next : Read
  is : next_record default_config s f p xs ≡ Some next
  rest : List (List (List ℕ))
  are : AreRecords default_config next.1 next.2 rest
  all : records_on s f p xs ≡ next.0 ∷ rest

-- There is no next record, and the text has no records left.
record HasNoNext (s : State) (f : List (List ℕ)) (p xs : List ℕ) : Type 0 where
  is : next_record default_config s f p xs ≡ None
  all : records_on s f p xs ≡ []

-- In either case csv reads the records of the text.
from_start : (s : State) (xs : List ℕ) → HasNoNext s [] [] xs ⊎ HasNext s [] [] xs → AreRecords default_config s xs (records_on s [] [] xs)
unfolding Reached
from_start s xs (inl has_none) = rw (has_none.all) (s, xs, (refl, refl), has_none.is)
from_start s xs (inr has_next) =
    let (s2, ys, reached, end) = has_next.are in
    rw (has_next.all) (s2, ys, (has_next.next, has_next.is, refl, reached), end)

-- From every state there is a next record or there is none.
next_or_none : (s : State) (f : List (List ℕ)) (p xs : List ℕ) → HasNoNext s f p xs ⊎ HasNext s f p xs
unfolding next_record records_on Reached
next_or_none s f p [] = elim (cases_Bool (ends_at_end s)) [
  | inl e ↦ inr (record { next = (f ++ (p ∷ []), st.StartRecord, []); is = rw e refl; rest = []; are = (st.StartRecord, [], (refl, refl), refl); all = rw e refl })
  | inr e ↦ inl (record { is = rw e refl; all = rw e refl })
]
next_or_none s f p (c ∷ xs) = elim (cases_Bool (is_end (step default_config s c).1)) [
  | inl e ↦ inr (record {
    next = (fields_after (step default_config s c).1 f p, (step default_config s c).0, xs);
    is = rw e refl;
    rest = records_on (step default_config s c).0 [] [] xs;
    are = from_start (step default_config s c).0 xs (next_or_none (step default_config s c).0 [] [] xs);
    all = rw e refl;
  })
  | inr e ↦ elim (next_or_none (step default_config s c).0 (fields_after (step default_config s c).1 f p) (field_after (step default_config s c).1 c p) xs) [
    | inl has_none ↦ inl (record { is = rw e has_none.is; all = rw e has_none.all })
    | inr has_next ↦ inr (record { next = has_next.next; is = rw e has_next.is; rest = has_next.rest; are = has_next.are; all = rw e has_next.all })
  ]
]

-- csv reads the records of a text from it.
pub are_records : (bytes : List ℕ) → AreRecords default_config st.StartRecord (strip_bom bytes) (records_of bytes)
are_records bytes = from_start st.StartRecord (strip_bom bytes) (next_or_none st.StartRecord [] [] (strip_bom bytes))
