-- What a whole trace or history is read as: its rows, or its first faulty row. Places are counted from 0, row
-- numbers from 1.
use Rattle.std.specs.Prelude.{◌≡◌, ℕ, ◌+◌, Bool, true, false, List, [], ◌∷◌, ◌++◌, length, All, Some, Result, Ok, Err}
use Rattle.std.specs.Global.{Vec}
use Rattle.lock_trace.specs.declared.faults.TraceKind.{TraceKind}
use Rattle.lock_trace.specs.declared.faults.TraceKind.TheVariants as kind
use Rattle.lock_trace.specs.declared.faults.TraceFault.{TraceFault}
use Rattle.lock_trace.specs.Tests.{first_failing}

-- A row before the rows that were read after it; their fault stays.
abbrev pub with_row : {A : Type 0} → A → Result (List A) TraceFault → Result (List A) TraceFault
with_row row (Ok rows) = Ok (row ∷ rows)
with_row row (Err fault) = Err fault

-- The row at a place with the rows after it, or the fault of that row.
abbrev pub then_rows : {A : Type 0} → ℕ → Result A TraceKind → Result (List A) TraceFault → Result (List A) TraceFault
then_rows place (Ok row) rest = with_row row rest
then_rows place (Err e) rest = Err (record { row = place + 1; kind = e })

-- The rows of these records, the first of which is at this place, or the first faulty row.
abbrev pub rows_from : {A : Type 0} → (ℕ → List (List ℕ) → Result A TraceKind) → ℕ → List (List (List ℕ)) → Result (List A) TraceFault
rows_from read place [] = Ok []
rows_from read place (r ∷ rs) = then_rows place (read place r) (rows_from read (place + 1) rs)

-- The records of these rows, the first of which is at this place.
abbrev pub fields_from : {A : Type 0} → (ℕ → A → List (List ℕ)) → ℕ → List A → List (List (List ℕ))
fields_from fields place [] = []
fields_from fields place (row ∷ rows) = fields place row ∷ fields_from fields (place + 1) rows

-- The records before row number k are rows, and these records are left.
pub record AreReadUpTo {A : Type 0} (Is : A → Type 0) (records_for : List A → List (List (List ℕ))) (records : List (List (List ℕ))) (k : ℕ) (left : List (List (List ℕ))) : Type 0 where
  pub front : List A
  pub are_rows : All Is front
  pub records_are : records ≡ records_for front ++ left
  pub number : k ≡ length front + 1

-- The fault names the first record that is no row, by its row number, and the first test that the record fails.
pub record IsFirstBad {A : Type 0} (Is : A → Type 0) (records_for : List A → List (List (List ℕ))) (tests : ℕ → List (List ℕ) → List (Bool × TraceKind)) (records : List (List (List ℕ))) (fault : TraceFault) : Type 0 where
  pub bad : List (List ℕ)
  pub rest : List (List (List ℕ))
  pub read : AreReadUpTo Is records_for records fault.row (bad ∷ rest)
  pub fails : first_failing (tests (length read.front) bad) ≡ Some fault.kind

-- The fault is of the device or of memory, not of the text.
abbrev pub is_io_or_memory_fault : TraceKind → Bool
is_io_or_memory_fault kind.Shape = false
is_io_or_memory_fault kind.Session = false
is_io_or_memory_fault kind.Op = false
is_io_or_memory_fault (kind.Path f) = false
is_io_or_memory_fault kind.Mode = false
is_io_or_memory_fault kind.Extra = false
is_io_or_memory_fault kind.Device = true
is_io_or_memory_fault kind.NoMemory = true
is_io_or_memory_fault kind.Place = false
is_io_or_memory_fault kind.Reply = false
is_io_or_memory_fault kind.Value = false

-- A fault of the text is what the text is read as. A fault of the device or of memory has the number of the row
-- after the rows that were read.
pub record TellsOf {A : Type 0} (Is : A → Type 0) (records_for : List A → List (List (List ℕ))) (records : List (List (List ℕ))) (parsed : Result (List A) TraceFault) (fault : TraceFault) : Type 0 where
  pub text : is_io_or_memory_fault fault.kind ≡ false → parsed ≡ Err fault
  pub machine : is_io_or_memory_fault fault.kind ≡ true → (left : List (List (List ℕ))) × AreReadUpTo Is records_for records fault.row left

-- The result is what the text is read as, or a fault of the device or of memory.
abbrev pub AnswersWith : {A : Type 0} → (A → Type 0) → (List A → List (List (List ℕ))) → List (List (List ℕ)) → Result (List A) TraceFault → Result (Vec A) TraceFault → Type 0
AnswersWith Is records_for records parsed (Ok rows) = parsed ≡ Ok rows.items
AnswersWith Is records_for records parsed (Err fault) = TellsOf Is records_for records parsed fault
