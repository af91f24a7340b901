-- The steps of the loop that reads a file.
use Rattle.std.proofs.Common.{◌≡◌, ℕ, ◌+◌, Bool, true, false, List, [], ◌∷◌, ◌++◌, length, Option, Result, Ok, Err, sym, ap, ◌∙◌, subst, append_assoc, arith}
use Rattle.std.specs.List.{All}
use Rattle.std.proofs.lemmas.List.{append-nil}
use Rattle.csv.specs.declared.reader.Reader.{Reader}
use Rattle.lock_trace.specs.declared.faults.TraceKind.{TraceKind}
use Rattle.lock_trace.specs.Records.{records_on}
use Rattle.lock_trace.specs.Files.{rows_from, fields_from, TellsOf}
use Rattle.lock_trace.specs.inner.Reading.{IsPast, IsNextRecord, IsFaultyRecord, IsNextRow, IsFormat}
use Rattle.lock_trace.proofs.FileLaws.{file_rows, bad_row}

-- If a record was read, the reader is behind it.
was_past : {R : Type 0} (rem : R → Option (List ℕ)) (all : List (List (List ℕ))) (reader : Reader R) (fields : List (List ℕ)) (b : Bool) → b ≡ true → IsNextRecord rem all reader fields (Ok b) → IsPast rem all reader fields
was_past rem all reader fields true is past = past
was_past rem all reader fields false is past = absurd cc

-- A row that was read is valid.
pub is_row : {A : Type 0} {Is : A → Type 0} {records_for : List A → List (List (List ℕ))} {fields : ℕ → A → List (List ℕ)} {read : ℕ → List (List ℕ) → Result A TraceKind} → IsFormat Is records_for fields read
    → (place : ℕ) (fs : List (List ℕ)) (row : A) → Ok row ≡ read place fs → Is row
is_row format place fs row e = ((format.reads place row fs).0 (sym e)).0

-- If the next record was read as a row, the row's fields are the next record.
pub past_row : {R A : Type 0} {Is : A → Type 0} {records_for : List A → List (List (List ℕ))} {fields : ℕ → A → List (List ℕ)} {read : ℕ → List (List ℕ) → Result A TraceKind} → IsFormat Is records_for fields read
    → (rem : R → Option (List ℕ)) (place : ℕ) (all : List (List (List ℕ))) (reader : Reader R) (fs : List (List ℕ)) (b : Bool) (row : A)
    → b ≡ true → IsNextRecord rem all reader fs (Ok b) → Ok row ≡ read place fs → IsPast rem all reader (fields place row)
past_row format rem place all reader fs b row is past e = subst (IsPast rem all reader) ((format.reads place row fs).0 (sym e)).1 (was_past rem all reader fs b is past)

-- If the next record was read as a fault, it is a faulty record.
pub past_bad : {R A : Type 0} (rem : R → Option (List ℕ)) (read : List (List ℕ) → Result A TraceKind) (all : List (List (List ℕ))) (reader : Reader R) (fs : List (List ℕ)) (b : Bool) (e : TraceKind)
    → b ≡ true → IsNextRecord rem all reader fs (Ok b) → Err e ≡ read fs → IsFaultyRecord rem read all reader e
past_bad rem read all reader fs b e is past fails = record { bad = fs; past = was_past rem all reader fs b is past; fails = sym fails }

-- The records of rows with one more row are their records and the fields of that row at the next place.
fields_push : {A : Type 0} (fields : ℕ → A → List (List ℕ)) (place : ℕ) (rows : List A) (row : A) → fields_from fields place (rows ++ row ∷ []) ≡ fields_from fields place rows ++ fields (place + length rows) row ∷ []
fields_push fields place [] row = ap (λ (k : ℕ). fields k row ∷ []) (omega arith)
fields_push fields place (x ∷ rows) row =
    let there : place + 1 + length rows ≡ place + length (x ∷ rows) = omega arith in
    ap (λ (rs : List (List (List ℕ))). fields place x ∷ rs) (fields_push fields (place + 1) rows row ∙ ap (λ (k : ℕ). fields_from fields (place + 1) rows ++ fields k row ∷ []) there)

-- After one more row, the records are the fields of the rows so far and the records that are left.
pub one_more_row : {A : Type 0} {Is : A → Type 0} {records_for : List A → List (List (List ℕ))} {fields : ℕ → A → List (List ℕ)} {read : ℕ → List (List ℕ) → Result A TraceKind} → IsFormat Is records_for fields read
    → (records rest all : List (List (List ℕ))) (rows : List A) (row : A) (place : ℕ) → place ≡ length rows
    → records ≡ records_for rows ++ all → all ≡ fields place row ∷ rest → records ≡ records_for (rows ++ row ∷ []) ++ rest
one_more_row {records_for = records_for} {fields = fields} format records rest all rows row place at so_far next =
    let here : place ≡ 0 + length rows = at ∙ omega arith in
    let grown : records_for (rows ++ row ∷ []) ≡ records_for rows ++ fields place row ∷ [] =
    format.records (rows ++ row ∷ []) ∙ fields_push fields 0 rows row ∙ ap (λ (rs : List (List (List ℕ))). rs ++ fields (0 + length rows) row ∷ []) (sym (format.records rows))
    ∙ ap (λ (k : ℕ). records_for rows ++ fields k row ∷ []) (sym here) in
    so_far ∙ ap (λ (x : List (List (List ℕ))). records_for rows ++ x) next
    ∙ sym (append_assoc (records_for rows) (fields place row ∷ []) rest)
    ∙ ap (λ (x : List (List (List ℕ))). x ++ rest) (sym grown)

-- If no record is left, the file is read as the rows so far.
pub all_rows : {A : Type 0} {Is : A → Type 0} {records_for : List A → List (List (List ℕ))} {fields : ℕ → A → List (List ℕ)} {read : ℕ → List (List ℕ) → Result A TraceKind} → IsFormat Is records_for fields read
    → (records all : List (List (List ℕ))) (rows : List A) → All Is rows → records ≡ records_for rows ++ all → all ≡ [] → rows_from read 0 records ≡ Ok rows
all_rows {records_for = records_for} format records all rows are so_far none =
    (file_rows format records rows).1 (are, so_far ∙ ap (λ (x : List (List (List ℕ))). records_for rows ++ x) none ∙ append-nil (records_for rows))

-- A fault of the next row is the fault that the file is read as, or of the device or memory.
pub tells : {R A : Type 0} {Is : A → Type 0} {records_for : List A → List (List (List ℕ))} {fields : ℕ → A → List (List ℕ)} {read : ℕ → List (List ℕ) → Result A TraceKind} → IsFormat Is records_for fields read
    → (rem : R → Option (List ℕ)) (records all : List (List (List ℕ))) (rows : List A) (place : ℕ) (reader : Reader R) (e : TraceKind) → All Is rows → records ≡ records_for rows ++ all → place ≡ length rows
    → IsNextRow rem (fields place) (read place) all reader (Err e) → TellsOf Is records_for records (rows_from read 0 records) (record { row = place + 1; kind = e })
tells {records_for = records_for} {read = read} format rem records all rows place reader e are so_far at next = record {
  text = λ not.
      let faulty = next not in
      let rest = records_on reader.state [] [] faulty.past.bytes in
      bad_row format records rows faulty.bad rest (record { row = place + 1; kind = e }) are (so_far ∙ ap (λ (x : List (List (List ℕ))). records_for rows ++ x) faulty.past.all_are)
      (ap (λ (k : ℕ). k + 1) at) (subst (λ (k : ℕ). read k faulty.bad ≡ Err e) at faulty.fails);
  machine = λ is. (all, record { front = rows; are_rows = are; records_are = so_far; number = ap (λ (k : ℕ). k + 1) at });
}
