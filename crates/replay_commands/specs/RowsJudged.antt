-- A history that is checked row by row; cited by private contracts only.
use Rattle.std.specs.Prelude.{◌≡◌, ℕ, List, ◌++◌, Option, Some, None, Result, Ok, Err}
use Rattle.lock_desk.specs.BookView.{BookView}
use Rattle.lock_rules.specs.Entries.{Entry}
use Rattle.lock_rules.specs.Legal.{IsLegal}
use Rattle.lock_trace.specs.declared.faults.TraceFault.{TraceFault}
use Rattle.lock_trace.specs.declared.history_reader.HistoryReader.{HistoryReader}
use Rattle.lock_trace.specs.HistoryReaders.{IsOpen, IsReading, entries_read, sessions_read}
use Rattle.lock_trace.specs.ReadHistories.{history_of, TellsOfHistory}
use Rattle.replay_commands.specs.declared.checking_by_row.Stop.{Stop}
use Rattle.replay_commands.specs.declared.checking_by_row.Stop.TheVariants as stop
use Rattle.replay_commands.specs.declared.finding.Finding.{Finding}
use Rattle.replay_commands.specs.declared.finding.Finding.TheVariants as finding
use Rattle.replay_commands.specs.Verdicts.{Finds, IsHistory, IsWrongReply}

-- the rows behind these entries were read: the bytes are a history of the entries and others, or a row is at fault
abbrev pub IsRest : ℕ → List ℕ → List Entry → Result (Unit {0}) TraceFault → Type 0
IsRest n bytes entries (Ok done) = (more : List Entry) × (history_of n bytes ≡ Ok (entries ++ more))
IsRest n bytes entries (Err fault) = TellsOfHistory n bytes fault

-- where the judging of rows stopped, whatever the bytes are: the book's history is legal, or the last entry is the first wrong one;
-- the reader can read on, unless the end or a fault was told
abbrev pub StopsAt : {R : Type 0} → ℕ → HistoryReader R → BookView → Result Stop TraceFault → Type 0
StopsAt n reader book (Ok stop.End) = IsLegal book.history
StopsAt n reader book (Ok (stop.Wrong wrong)) = IsOpen reader × (sessions_read reader ≡ n) × IsWrongReply (entries_read reader) wrong
StopsAt n reader book (Ok stop.Starved) = IsOpen reader × (sessions_read reader ≡ n)
StopsAt n reader book (Err fault) = Unit {0}

-- where the judging of rows of these bytes stopped
abbrev pub StopsIn : {R : Type 0} → (R → Option (List ℕ)) → ℕ → List ℕ → HistoryReader R → BookView → Result Stop TraceFault → Type 0
StopsIn rem n bytes reader book (Ok stop.End) = history_of n bytes ≡ Ok book.history
StopsIn rem n bytes reader book (Ok (stop.Wrong wrong)) = IsReading rem bytes reader
StopsIn rem n bytes reader book (Ok stop.Starved) = IsReading rem bytes reader
StopsIn rem n bytes reader book (Err fault) = TellsOfHistory n bytes fault

-- what was found in these entries, of which others follow: the first wrong reply, or that the lock table found no memory
abbrev pub IsFound : List Entry → Option Finding → Type 0
IsFound entries None = Unit {0}
IsFound entries (Some (finding.Legal count)) = ⊥
IsFound entries (Some (finding.Wrong wrong)) = IsWrongReply entries wrong

-- what is found in these bytes, none if the lock table found no memory
abbrev pub FindsIn : ℕ → List ℕ → Result (Option Finding) TraceFault → Type 0
FindsIn n bytes (Ok (Some found)) = Finds n bytes (Ok found)
FindsIn n bytes (Ok None) = IsHistory n bytes
FindsIn n bytes (Err fault) = TellsOfHistory n bytes fault
