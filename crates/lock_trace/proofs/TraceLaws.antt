-- A trace is read as rows exactly if its records are the fields of these rows.
use Rattle.std.proofs.Common.{◌≡◌, ◌↔◌, ℕ, ◌+◌, ◌<◌, ◌^◌, List, [], ◌∷◌, map, Ok, Err, refl, ap}
use Rattle.std.specs.List.{All}
use Rattle.lock_trace.specs.declared.faults.TraceFault.{TraceFault}
use Rattle.lock_trace.specs.declared.trace_row.TraceRow.{TraceRow}
use Rattle.lock_trace.specs.Rows.{IsRow, fields_of_row, row_of}
use Rattle.lock_trace.specs.Tests.{tests_of_row}
use Rattle.lock_trace.specs.Records.{records_of}
use Rattle.lock_trace.specs.Files.{fields_from}
use Rattle.lock_trace.specs.inner.Reading.{IsFormat}
use Rattle.lock_trace.specs.Traces.{records_of_trace, trace_of, IsFirstBadRow}
use Rattle.lock_trace.proofs.RowLaws.{row_iff}
use Rattle.lock_trace.proofs.TestLaws.{fault_iff}
use Rattle.lock_trace.proofs.FileLaws.{file_rows, file_fault}

-- The fields of a trace row do not depend on its place.
at_each_place : (place : ℕ) (rows : List TraceRow) → map fields_of_row rows ≡ fields_from (λ place row. fields_of_row row) place rows
at_each_place place [] = refl
at_each_place place (row ∷ rows) = ap (λ (rs : List (List (List ℕ))). fields_of_row row ∷ rs) (at_each_place (place + 1) rows)

-- Trace rows are a format: each is read from exactly its fields.
pub trace_format : (n : ℕ) → n < 2 ^ 16 → IsFormat (IsRow n) records_of_trace (λ place row. fields_of_row row) (λ place fields. row_of n fields)
trace_format n lt = record { records = at_each_place 0; reads = λ place row fields. row_iff n row fields lt }

-- A trace is read as rows exactly if the rows are valid and its records are their fields.
pub trace_rows : (n : ℕ) (bytes : List ℕ) (rows : List TraceRow) → n < 2 ^ 16 → (trace_of n bytes ≡ Ok rows) ↔ (All (IsRow n) rows × (records_of bytes ≡ map fields_of_row rows))
trace_rows n bytes rows lt = file_rows (trace_format n lt) (records_of bytes) rows

-- A trace is read as a fault exactly if the fault names the first record that is no row.
pub trace_fault : (n : ℕ) (bytes : List ℕ) (fault : TraceFault) → n < 2 ^ 16 → (trace_of n bytes ≡ Err fault) ↔ IsFirstBadRow n (records_of bytes) fault
trace_fault n bytes fault lt = file_fault (trace_format n lt) (λ place fields. tests_of_row n fields) (λ place fields kind. fault_iff n fields kind) (records_of bytes) fault
