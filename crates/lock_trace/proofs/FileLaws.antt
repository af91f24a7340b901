-- A file is read as rows exactly if its records are the fields of these rows.
use Rattle.std.proofs.Common.{◌≡◌, ◌↔◌, ℕ, ◌+◌, List, [], ◌∷◌, ◌++◌, length, Bool, Some, Result, Ok, Err, refl, sym, ap, ◌∙◌, subst, arith}
use Rattle.std.specs.List.{All, AllByRecursion}
use Rattle.std.proofs.lemmas.List.Elements.{All-from_recursion, recursion_from_All}
use Rattle.lock_trace.specs.declared.faults.TraceKind.{TraceKind}
use Rattle.lock_trace.specs.declared.faults.TraceFault.{TraceFault}
use Rattle.lock_trace.specs.Tests.{first_failing}
use Rattle.lock_trace.specs.Files.{then_rows, rows_from, fields_from, IsFirstBad}
use Rattle.lock_trace.specs.inner.Reading.{IsFormat}

-- The records of valid rows are read as these rows.
rows_back : {A : Type 0} {Is : A → Type 0} {records_for : List A → List (List (List ℕ))} {fields : ℕ → A → List (List ℕ)} {read : ℕ → List (List ℕ) → Result A TraceKind} → IsFormat Is records_for fields read
    → (place : ℕ) (rows : List A) → AllByRecursion Is rows → rows_from read place (fields_from fields place rows) ≡ Ok rows
rows_back format place [] are = refl
rows_back {fields = fields} format place (row ∷ rows) are = rw ((format.reads place row (fields place row)).1 (are.0, refl), rows_back format (place + 1) rows are.1) refl

-- The fault of the row at a place.
abbrev pub fault_at : ℕ → TraceKind → TraceFault
fault_at place e = record { row = place + 1; kind = e }

-- An `Err` of a file, with the row type fixed.
abbrev refused : {A : Type 0} → TraceFault → Result (List A) TraceFault
refused fault = Err fault

-- An `Ok` of rows, with the fault type fixed.
abbrev accepted : {A : Type 0} → List A → Result (List A) TraceFault
accepted rows = Ok rows

-- A place after no rows is the place itself.
no_more : (k : ℕ) → k + 0 ≡ k
no_more k = omega arith

-- A place after one row and others is the next place after the others.
one_more : {A : Type 0} (k : ℕ) (row : A) (front : List A) → k + length (row ∷ front) ≡ k + 1 + length front
one_more k row front = omega arith

-- The records of valid rows, followed by a record that is no row, are read as the fault of that record.
bad_back : {A : Type 0} {Is : A → Type 0} {records_for : List A → List (List (List ℕ))} {fields : ℕ → A → List (List ℕ)} {read : ℕ → List (List ℕ) → Result A TraceKind} → IsFormat Is records_for fields read
    → (place : ℕ) (front : List A) (bad : List (List ℕ)) (rest : List (List (List ℕ))) (e : TraceKind) → AllByRecursion Is front → read (place + length front) bad ≡ Err e
    → rows_from read place (fields_from fields place front ++ bad ∷ rest) ≡ refused (fault_at (place + length front) e)
bad_back {A = A} {read = read} format place [] bad rest e are fails =
    let here : read place bad ≡ Err e = subst (λ (j : ℕ). read j bad ≡ Err e) (no_more place) fails in
    rw here (ap (λ (j : ℕ). refused {A = A} (fault_at j e)) (sym (no_more place)))
bad_back {A = A} {fields = fields} {read = read} format place (row ∷ front) bad rest e are fails =
    let there : read (place + 1 + length front) bad ≡ Err e = subst (λ (j : ℕ). read j bad ≡ Err e) (one_more place row front) fails in
    let later = bad_back format (place + 1) front bad rest e are.1 there in
    let here : rows_from read place (fields place row ∷ (fields_from fields (place + 1) front ++ bad ∷ rest)) ≡ refused (fault_at (place + 1 + length front) e) = rw ((format.reads place row (fields place row)).1 (are.0, refl), later) refl in
    here ∙ ap (λ (j : ℕ). refused {A = A} (fault_at j e)) (sym (one_more place row front))

-- The rows are valid, and the records are their fields.
record AreOf {A : Type 0} (Is : A → Type 0) (fields : ℕ → A → List (List ℕ)) (place : ℕ) (rs : List (List (List ℕ))) (rows : List A) : Type 0 where
  are : AllByRecursion Is rows
  is : rs ≡ fields_from fields place rows

-- The first record that is no row, among the records from a place on, and its fault.
record IsBadFrom {A : Type 0} (Is : A → Type 0) (fields : ℕ → A → List (List ℕ)) (read : ℕ → List (List ℕ) → Result A TraceKind) (place : ℕ) (rs : List (List (List ℕ))) (fault : TraceFault) : Type 0 where
  front : List A
  bad : List (List ℕ)
  rest : List (List (List ℕ))
  are : AllByRecursion Is front
  is : rs ≡ fields_from fields place front ++ bad ∷ rest
  number : fault.row ≡ place + length front + 1
  fails : read (place + length front) bad ≡ Err fault.kind

-- The meaning of a result: rows are valid and the records are their fields, or a fault names the first record that
-- is no row.
data Says {A : Type 0} (Is : A → Type 0) (fields : ℕ → A → List (List ℕ)) (read : ℕ → List (List ℕ) → Result A TraceKind) (place : ℕ) (rs : List (List (List ℕ))) : Result (List A) TraceFault → Type 0 where
  says_rows : (rows : List A) → AreOf Is fields place rs rows → Says Is fields read place rs (Ok rows)
  says_bad : (fault : TraceFault) → IsBadFrom Is fields read place rs fault → Says Is fields read place rs (Err fault)

-- With one more record in front, the result keeps its meaning.
says_then : {A : Type 0} {Is : A → Type 0} {records_for : List A → List (List (List ℕ))} {fields : ℕ → A → List (List ℕ)} {read : ℕ → List (List ℕ) → Result A TraceKind} → IsFormat Is records_for fields read
    → (place : ℕ) (r : List (List ℕ)) (rs : List (List (List ℕ))) (x : Result A TraceKind) (later : Result (List A) TraceFault)
    → read place r ≡ x → Says Is fields read (place + 1) rs later → Says Is fields read place (r ∷ rs) (then_rows place x later)
says_then {read = read} format place r rs (Err e) later is says =
    says_bad (fault_at place e) (record { front = []; bad = r; rest = rs; are = tt; is = refl; number = omega arith; fails = subst (λ (j : ℕ). read j r ≡ Err e) (sym (no_more place)) is })
says_then format place r rs (Ok row) _ is (says_rows rows of) =
    let this = (format.reads place row r).0 is in
    says_rows (row ∷ rows) (record { are = (this.0, of.are); is = rw (this.1, of.is) refl })
says_then {read = read} format place r rs (Ok row) _ is (says_bad fault of) =
    let this = (format.reads place row r).0 is in
    says_bad fault (record {
      front = row ∷ of.front;
      bad = of.bad;
      rest = of.rest;
      are = (this.0, of.are);
      is = rw (this.1, of.is) refl;
      number = of.number ∙ omega arith;
      fails = subst (λ (j : ℕ). read j of.bad ≡ Err fault.kind) (sym (one_more place row of.front)) of.fails;
    })

-- The result of reading records has its meaning.
says : {A : Type 0} {Is : A → Type 0} {records_for : List A → List (List (List ℕ))} {fields : ℕ → A → List (List ℕ)} {read : ℕ → List (List ℕ) → Result A TraceKind} → IsFormat Is records_for fields read
    → (place : ℕ) (rs : List (List (List ℕ))) → Says Is fields read place rs (rows_from read place rs)
says format place [] = says_rows [] (record { are = tt; is = refl })
says {read = read} format place (r ∷ rs) = says_then format place r rs (read place r) (rows_from read (place + 1) rs) refl (says format (place + 1) rs)

-- If records are read as rows, they are the fields of these rows.
rows_said : {A : Type 0} {Is : A → Type 0} {fields : ℕ → A → List (List ℕ)} {read : ℕ → List (List ℕ) → Result A TraceKind} (place : ℕ) (rs : List (List (List ℕ))) (said : Result (List A) TraceFault) (rows : List A)
    → Says Is fields read place rs said → said ≡ Ok rows → AreOf Is fields place rs rows
rows_said {A = A} {Is = Is} {fields = fields} place rs _ rows (says_rows others of) e = subst (AreOf Is fields place rs) (same others rows e) of
  where
    same : (a b : List A) → accepted a ≡ accepted b → a ≡ b
    same a b e = cc
rows_said place rs _ rows (says_bad fault of) e = absurd cc

-- If records are read as a fault, the fault names the first record that is no row.
bad_said : {A : Type 0} {Is : A → Type 0} {fields : ℕ → A → List (List ℕ)} {read : ℕ → List (List ℕ) → Result A TraceKind} (place : ℕ) (rs : List (List (List ℕ))) (said : Result (List A) TraceFault) (fault : TraceFault)
    → Says Is fields read place rs said → said ≡ Err fault → IsBadFrom Is fields read place rs fault
bad_said place rs _ fault (says_rows rows of) e = absurd cc
bad_said {A = A} {Is = Is} {fields = fields} {read = read} place rs _ fault (says_bad other of) e = subst (IsBadFrom Is fields read place rs) (same other fault e) of
  where
    same : (a b : TraceFault) → refused {A = A} a ≡ refused b → a ≡ b
    same a b e = cc

-- Records are read as rows exactly if the rows are valid and the records are their fields.
pub file_rows : {A : Type 0} {Is : A → Type 0} {records_for : List A → List (List (List ℕ))} {fields : ℕ → A → List (List ℕ)} {read : ℕ → List (List ℕ) → Result A TraceKind} → IsFormat Is records_for fields read
    → (records : List (List (List ℕ))) (rows : List A) → (rows_from read 0 records ≡ Ok rows) ↔ (All Is rows × (records ≡ records_for rows))
file_rows {Is = Is} {read = read} format records rows = (
  λ e. let of = rows_said 0 records (rows_from read 0 records) rows (says format 0 records) e in (All-from_recursion Is rows of.are, of.is ∙ sym (format.records rows)),
  λ h. ap (rows_from read 0) (h.1 ∙ format.records rows) ∙ rows_back format 0 rows (recursion_from_All Is rows h.0),
)

-- A place from 0 on is the place itself.
from_none : (k : ℕ) → 0 + k ≡ k
from_none k = omega arith

-- If valid rows are followed by a record that is no row, the file is read as that record's fault.
pub bad_row : {A : Type 0} {Is : A → Type 0} {records_for : List A → List (List (List ℕ))} {fields : ℕ → A → List (List ℕ)} {read : ℕ → List (List ℕ) → Result A TraceKind} → IsFormat Is records_for fields read
    → (records : List (List (List ℕ))) (front : List A) (bad : List (List ℕ)) (rest : List (List (List ℕ))) (fault : TraceFault) → All Is front → records ≡ records_for front ++ bad ∷ rest
    → fault.row ≡ length front + 1 → read (length front) bad ≡ Err fault.kind → rows_from read 0 records ≡ Err fault
bad_row {A = A} {Is = Is} {fields = fields} {read = read} format records front bad rest fault are is number fails =
    let at : read (0 + length front) bad ≡ Err fault.kind = subst (λ (j : ℕ). read j bad ≡ Err fault.kind) (sym (from_none (length front))) fails in
    ap (rows_from read 0) (is ∙ ap (λ (rs : List (List (List ℕ))). rs ++ bad ∷ rest) (format.records front))
    ∙ bad_back format 0 front bad rest fault.kind (recursion_from_All Is front are) at
    ∙ ap (λ (j : ℕ). refused {A = A} (record { row = j; kind = fault.kind })) (same_row (length front) fault.row number)
  where
    same_row : (k row : ℕ) → row ≡ k + 1 → 0 + k + 1 ≡ row
    same_row k row e = omega (arith, e)

-- Records are read as a fault exactly if the fault names the first record that is no row.
pub file_fault : {A : Type 0} {Is : A → Type 0} {records_for : List A → List (List (List ℕ))} {fields : ℕ → A → List (List ℕ)} {read : ℕ → List (List ℕ) → Result A TraceKind} → IsFormat Is records_for fields read
    → (tests : ℕ → List (List ℕ) → List (Bool × TraceKind)) → ((place : ℕ) (fs : List (List ℕ)) (k : TraceKind) → (read place fs ≡ Err k) ↔ (first_failing (tests place fs) ≡ Some k))
    → (records : List (List (List ℕ))) (fault : TraceFault) → (rows_from read 0 records ≡ Err fault) ↔ IsFirstBad Is records_for tests records fault
file_fault {Is = Is} {read = read} format tests decide records fault = (
  λ e.
      let of = bad_said 0 records (rows_from read 0 records) fault (says format 0 records) e in
      record {
        bad = of.bad;
        rest = of.rest;
        fails = (decide (length of.front) of.bad fault.kind).0 (subst (λ (j : ℕ). read j of.bad ≡ Err fault.kind) (from_none (length of.front)) of.fails);
        read = record {
          front = of.front;
          are_rows = All-from_recursion Is of.front of.are;
          records_are = of.is ∙ ap (λ (rs : List (List (List ℕ))). rs ++ of.bad ∷ of.rest) (sym (format.records of.front));
          number = of.number ∙ omega arith;
        };
      },
  λ h. bad_row format records h.read.front h.bad h.rest fault h.read.are_rows h.read.records_are h.read.number ((decide (length h.read.front) h.bad fault.kind).1 h.fails),
)
