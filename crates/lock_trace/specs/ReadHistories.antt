-- What a whole history is read as: its entries, or its first faulty row.
use Rattle.std.specs.Prelude.{ℕ, List, Result}
use Rattle.std.specs.Global.{Vec}
use Rattle.lock_rules.specs.Entries.{Entry}
use Rattle.lock_trace.specs.declared.faults.TraceFault.{TraceFault}
use Rattle.lock_trace.specs.Entries.{IsEntry, entry_of}
use Rattle.lock_trace.specs.Tests.{tests_of_entry}
use Rattle.lock_trace.specs.Records.{records_of}
use Rattle.lock_trace.specs.Histories.{records_of_history}
use Rattle.lock_trace.specs.Files.{rows_from, IsFirstBad, TellsOf, AnswersWith}

-- What the bytes of a history are read as for n sessions.
abbrev pub history_of : ℕ → List ℕ → Result (List Entry) TraceFault
history_of n bytes = rows_from (entry_of n) 0 (records_of bytes)

-- The fault names the first record that is no entry of its place, by its row number, and the first test that the
-- record fails.
abbrev pub IsFirstBadEntry : ℕ → List (List (List ℕ)) → TraceFault → Type 0
IsFirstBadEntry n records fault = IsFirstBad (IsEntry n) records_of_history (tests_of_entry n) records fault

-- A fault of the text is what the bytes are read as. A fault of the device or of memory has the number of the row
-- after the rows that were read.
abbrev pub TellsOfHistory : ℕ → List ℕ → TraceFault → Type 0
TellsOfHistory n bytes fault = TellsOf (IsEntry n) records_of_history (records_of bytes) (history_of n bytes) fault

-- The result is what the bytes are read as, or a fault of the device or of memory.
abbrev pub AnswersHistory : ℕ → List ℕ → Result (Vec Entry) TraceFault → Type 0
AnswersHistory n bytes result = AnswersWith (IsEntry n) records_of_history (records_of bytes) (history_of n bytes) result
