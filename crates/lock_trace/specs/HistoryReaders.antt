-- A history that is read row by row.
use Rattle.std.specs.Prelude.{◌≡◌, ◌<◌, ◌+◌, ◌^◌, ℕ, List, [], ◌∷◌, ◌++◌, length, All, Option, Some, None, Result, Ok, Err}
use Rattle.csv.specs.Reading.{source_of}
use Rattle.lock_rules.specs.Entries.{Entry}
use Rattle.lock_trace.specs.declared.faults.TraceFault.{TraceFault}
use Rattle.lock_trace.specs.declared.history_reader.HistoryReader.{HistoryReader}
use Rattle.lock_trace.specs.Entries.{IsEntry}
use Rattle.lock_trace.specs.Histories.{records_of_history}
use Rattle.lock_trace.specs.Records.{records_on, records_of}
use Rattle.lock_trace.specs.ReadHistories.{history_of, TellsOfHistory}
use Rattle.lock_trace.specs.inner.Reading.{IsRecordReader}

-- The greatest number of a session that the reader takes.
abbrev pub sessions_read : {R : Type 0} → HistoryReader R → ℕ
sessions_read reader = reader.sessions

-- The entries that were read so far.
abbrev pub entries_read : {R : Type 0} → HistoryReader R → List Entry
entries_read reader = reader.told.items

-- The reader can read on: it told neither the end nor a fault.
pub record IsOpen {R : Type 0} (reader : HistoryReader R) : Type 0 where
  pub reading : IsRecordReader reader.reader
  pub entries : All (IsEntry reader.sessions) reader.told.items
  pub place : reader.place ≡ length reader.told.items
  pub few : reader.place + 1 < 2 ^ 64

-- The reader reads a history of these bytes: their records are those of the entries that were read, and those that are left.
pub record IsReading {R : Type 0} (rem : R → Option (List ℕ)) (bytes : List ℕ) (reader : HistoryReader R) : Type 0 where
  pub left : List ℕ
  pub source : source_of rem reader.reader ≡ Some left
  pub so_far : records_of bytes ≡ records_of_history reader.told.items ++ records_on reader.reader.state [] [] left

-- The next entry was read, and the reader can read on.
pub record IsNextEntry {R : Type 0} (old new : HistoryReader R) (entry : Entry) : Type 0 where
  pub ready : IsOpen new
  pub sessions : new.sessions ≡ old.sessions
  pub is_entry : IsEntry old.sessions entry
  pub entries : entries_read new ≡ entries_read old ++ entry ∷ []

-- What a read of a history of these bytes says: there is a next entry; or the history has the entries that were read and no others;
-- or its next row is at fault.
abbrev pub ReadsOn : {R : Type 0} → (R → Option (List ℕ)) → List ℕ → HistoryReader R → HistoryReader R → Result (Option Entry) TraceFault → Type 0
ReadsOn rem bytes old new (Ok (Some entry)) = IsReading rem bytes new
ReadsOn rem bytes old new (Ok None) = history_of old.sessions bytes ≡ Ok (entries_read old)
ReadsOn rem bytes old new (Err fault) = TellsOfHistory old.sessions bytes fault
