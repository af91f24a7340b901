use Rattle.std.proofs.Common.{◌≡◌, ℕ, List, [], ◌++◌, Some}
use Rattle.std.specs.Prelude.{All}
use Rattle.csv.specs.Reading.{source_of}
use Rattle.lock_trace.specs.Records.{records_on, records_of}
use Rattle.lock_trace.specs.inner.Reading.{IsRecordReader}
use Rattle.lock_trace.proofs.reading.read_rows.Given as goal

-- The records of the input are the fields of the rows so far and the records that the reader has left.
abbrev pub invariant-loop : goal.invariant-loop
invariant-loop g l = record {
  reading : IsRecordReader l.reader;
  rows : All (g.T.Row.is l.sessions) l.rows.items;
  so_far : (bytes : List ℕ) → g.R.Read.remaining l.fn.input ≡ Some bytes
      → (left : List ℕ) × (source_of g.R.Read.remaining l.reader ≡ Some left)
      × (records_of bytes ≡ g.T.Row.records l.rows.items ++ records_on l.reader.state [] [] left);
}
