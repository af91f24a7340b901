-- What one read of the csv reader takes from the records that are left.
use Rattle.std.proofs.Common.{◌≡◌, ℕ, zero, suc, ◌<◌, Bool, true, false, List, [], ◌∷◌, length, Option, Some, Ok, refl, ◌∙◌, arith, inl, inr}
use Rattle.std.proofs.lemmas.Bool.{cases_Bool}
use Rattle.csv.specs.Machine.{Read, step, is_end, ends_at_end, fields_after, field_after, next_record}
use Rattle.csv.specs.Reading.{default_config, records_next, source_of, ReadRecord, Reached}
use Rattle.csv.specs.Records.{field_at}
use Rattle.csv.specs.declared.reader.Reader.{Reader}
use Rattle.csv.specs.declared.parser.State.{State}
use Rattle.csv.proofs.ReadFacts.{rows-more, rows-end}
use Rattle.lock_trace.specs.Tests.{field_of}
use Rattle.lock_trace.specs.Records.{records_on}
use Rattle.lock_trace.specs.inner.Reading.{IsPast, IsNextRecord}

-- The records from a state on are the next record and the records after it.
pub after_next : (s : State) (f : List (List ℕ)) (p xs : List ℕ) → records_on s f p xs ≡ records_next (λ s2 ys. records_on s2 [] [] ys) (next_record default_config s f p xs)
unfolding records_on next_record
after_next s f p [] = elim (cases_Bool (ends_at_end s)) [
  | inl e ↦ rw e refl
  | inr e ↦ rw e refl
]
after_next s f p (c ∷ rest) = elim (cases_Bool (is_end (step default_config s c).1)) [
  | inl e ↦ rw e refl
  | inr e ↦ rw e (after_next (step default_config s c).0 (fields_after (step default_config s c).1 f p) (field_after (step default_config s c).1 c p) rest)
]

-- If there is a next record, it is the first of the records, and the rest are the records after it.
one_record : (a b : State) (y z : List ℕ) (p : Read) (f : List (List ℕ)) → next_record default_config a [] [] y ≡ Some p → f ≡ p.0 → p.1 ≡ b → p.2 ≡ z
    → records_on a [] [] y ≡ f ∷ records_on b [] [] z
one_record a b y z p f next fields state rest = after_next a [] [] y ∙ rw (next, fields, ← state, ← rest) refl

-- After a successful read, the fields read are the first record and the reader is behind it.
read_one : {R : Type 0} (rem : R → Option (List ℕ)) (a b : Reader R) (f : List (List ℕ)) (y : List ℕ)
    → a.config ≡ default_config → source_of rem a ≡ Some y → ReadRecord rem a b true f → IsPast rem (records_on a.state [] [] y) b f
unfolding Reached
read_one rem a b f y config source r =
    let m = rows-more rem a b f default_config a.state y y [] config source (refl, refl) r in
    let (z, at_z, reached) = m in
    let (p, next, fields, end) = reached in
    record { bytes = z; source = at_z; all_are = one_record a.state b.state y z p f next fields end.0 end.1 }

-- If a read finds no record, none is left.
read_none : {R : Type 0} (rem : R → Option (List ℕ)) (a b : Reader R) (f : List (List ℕ)) (y : List ℕ)
    → a.config ≡ default_config → source_of rem a ≡ Some y → ReadRecord rem a b false f → records_on a.state [] [] y ≡ []
read_none rem a b f y config source r = after_next a.state [] [] y ∙ rw (rows-end rem a b f default_config y config source r) refl

-- A read that does not fail reads the next record, or finds that none is left.
pub read_next : {R : Type 0} (rem : R → Option (List ℕ)) (a b : Reader R) (found : Bool) (f : List (List ℕ)) (y : List ℕ)
    → a.config ≡ default_config → source_of rem a ≡ Some y → ReadRecord rem a b found f → IsNextRecord rem (records_on a.state [] [] y) b f (Ok found)
read_next rem a b true f y config source r = read_one rem a b f y config source r
read_next rem a b false f y config source r = read_none rem a b f y config source r

-- There is a field at each index below the number of fields.
pub some_field : (fs : List (List ℕ)) (i : ℕ) → i < length fs → (f : List ℕ) × (field_at fs i ≡ Some f)
unfolding field_at
some_field [] i lt = absurd (omega arith)
some_field (f ∷ fs) zero lt = (f, refl)
some_field (f ∷ fs) (suc i) lt = some_field fs i (omega arith)

-- The field that csv has at an index is the field at that index of the record.
pub field_is : (fs : List (List ℕ)) (i : ℕ) (f : List ℕ) → field_at fs i ≡ Some f → f ≡ field_of fs i
unfolding field_at
field_is [] i f e = absurd cc
field_is (g ∷ gs) zero f e = cc
field_is (g ∷ gs) (suc i) f e = field_is gs i f e
