-- What a whole trace is read as: its rows, or its first faulty row.
use Rattle.std.specs.Prelude.{ℕ, List, map, Result}
use Rattle.std.specs.Global.{Vec}
use Rattle.lock_trace.specs.declared.faults.TraceFault.{TraceFault}
use Rattle.lock_trace.specs.declared.trace_row.TraceRow.{TraceRow}
use Rattle.lock_trace.specs.Rows.{IsRow, fields_of_row, row_of}
use Rattle.lock_trace.specs.Tests.{tests_of_row}
use Rattle.lock_trace.specs.Records.{records_of}
use Rattle.lock_trace.specs.Files.{rows_from, IsFirstBad, TellsOf, AnswersWith}

-- The records of a trace: the fields of each row, in order.
abbrev pub records_of_trace : List TraceRow → List (List (List ℕ))
records_of_trace rows = map fields_of_row rows

-- What the bytes of a trace are read as for n sessions.
abbrev pub trace_of : ℕ → List ℕ → Result (List TraceRow) TraceFault
trace_of n bytes = rows_from (λ place fields. row_of n fields) 0 (records_of bytes)

-- The fault names the first record that is no trace row, by its row number, and the first test that the record
-- fails.
abbrev pub IsFirstBadRow : ℕ → List (List (List ℕ)) → TraceFault → Type 0
IsFirstBadRow n records fault = IsFirstBad (IsRow n) records_of_trace (λ place fields. tests_of_row n fields) records fault

-- A fault of the text is what the bytes are read as. A fault of the device or of memory has the number of the row
-- after the rows that were read.
abbrev pub Tells : ℕ → List ℕ → TraceFault → Type 0
Tells n bytes fault = TellsOf (IsRow n) records_of_trace (records_of bytes) (trace_of n bytes) fault

-- The result is what the bytes are read as, or a fault of the device or of memory.
abbrev pub Answers : ℕ → List ℕ → Result (Vec TraceRow) TraceFault → Type 0
Answers n bytes result = AnswersWith (IsRow n) records_of_trace (records_of bytes) (trace_of n bytes) result
