-- What one step of reading a file does. Only private contracts cite these definitions.
use Rattle.std.specs.Prelude.{◌≡◌, ◌↔◌, ℕ, ◌∷◌, [], List, Bool, true, false, Option, Some, None, Result, Ok, Err}
use Rattle.csv.specs.Reading.{default_config, is_flexible, source_of, Ready}
use Rattle.csv.specs.declared.error.ErrorKind.{ErrorKind}
use Rattle.csv.specs.declared.error.ErrorKind.TheVariants as error
use Rattle.csv.specs.declared.reader.Reader.{Reader}
use Rattle.csv.specs.declared.reader.Trim.TheVariants as trim
use Rattle.lock_trace.specs.declared.faults.TraceKind.{TraceKind}
use Rattle.lock_trace.specs.Records.{records_on}
use Rattle.lock_trace.specs.Files.{is_io_or_memory_fault, fields_from}

-- The csv reader is ready, takes records of any number of fields, trims nothing, and has the default rules.
pub record IsRecordReader {R : Type 0} (reader : Reader R) : Type 0 where
  pub any_length : is_flexible reader ≡ true
  pub trim : reader.trim ≡ trim.None
  pub ready : Ready reader
  pub config : reader.config ≡ default_config

-- The error is of the device below or of memory: no record was refused for its content.
abbrev pub is_io_or_memory_error : ErrorKind → Bool
is_io_or_memory_error (error.Io e) = true
is_io_or_memory_error (error.UnequalLengths pos expected len) = false
is_io_or_memory_error (error.Utf8 pos err) = false
is_io_or_memory_error error.OutOfMemory = true
is_io_or_memory_error (error.Serialize text) = false
is_io_or_memory_error (error.Deserialize pos err) = false

-- The first of the records that were left has these fields, and the reader is behind that record.
pub record IsPast {R : Type 0} (rem : R → Option (List ℕ)) (all : List (List (List ℕ))) (reader : Reader R) (first : List (List ℕ)) : Type 0 where
  pub bytes : List ℕ
  pub source : source_of rem reader ≡ Some bytes
  pub all_are : all ≡ first ∷ records_on reader.state [] [] bytes

-- The result of reading a record: its fields were read, no record is left, or the device or memory failed.
abbrev pub IsNextRecord : {R : Type 0} → (R → Option (List ℕ)) → List (List (List ℕ)) → Reader R → List (List ℕ) → Result Bool TraceKind → Type 0
IsNextRecord rem all reader fields (Ok true) = IsPast rem all reader fields
IsNextRecord rem all reader fields (Ok false) = all ≡ []
IsNextRecord rem all reader fields (Err e) = is_io_or_memory_fault e ≡ true

-- The reader is behind a record that is read as this fault.
pub record IsFaultyRecord {R A : Type 0} (rem : R → Option (List ℕ)) (read : List (List ℕ) → Result A TraceKind) (all : List (List (List ℕ))) (reader : Reader R) (e : TraceKind) : Type 0 where
  pub bad : List (List ℕ)
  pub past : IsPast rem all reader bad
  pub fails : read bad ≡ Err e

-- The result of reading a row: the row's fields are the next record, no record is left, or the next record, the
-- device or memory is at fault.
abbrev pub IsNextRow : {R A : Type 0} → (R → Option (List ℕ)) → (A → List (List ℕ)) → (List (List ℕ) → Result A TraceKind) → List (List (List ℕ)) → Reader R → Result (Option A) TraceKind → Type 0
IsNextRow rem fields read all reader (Ok None) = all ≡ []
IsNextRow rem fields read all reader (Ok (Some row)) = IsPast rem all reader (fields row)
IsNextRow rem fields read all reader (Err e) = is_io_or_memory_fault e ≡ false → IsFaultyRecord rem read all reader e

-- A kind of row: a record is read as a row at a place exactly if its fields are that row's fields at that place.
pub record IsFormat {A : Type 0} (Is : A → Type 0) (records_for : List A → List (List (List ℕ))) (fields : ℕ → A → List (List ℕ)) (read : ℕ → List (List ℕ) → Result A TraceKind) : Type 0 where
  pub records : (rows : List A) → records_for rows ≡ fields_from fields 0 rows
  pub reads : (place : ℕ) (row : A) (record_fields : List (List ℕ)) → (read place record_fields ≡ Ok row) ↔ (Is row × (record_fields ≡ fields place row))
