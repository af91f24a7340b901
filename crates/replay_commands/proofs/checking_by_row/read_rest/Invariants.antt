use Rattle.std.proofs.Common.{◌≡◌, ◌++◌, ℕ, List, length}
use Rattle.lock_rules.specs.Entries.{Entry}
use Rattle.lock_trace.specs.HistoryReaders.{IsOpen, IsReading, entries_read, sessions_read}
use Rattle.replay_commands.proofs.checking_by_row.read_rest.Given as goal

-- the reader can read on, and has read one more entry each turn
abbrev pub invariant-loop-turn : goal.invariant-loop-turn
invariant-loop-turn g l = record {
  ready : IsOpen l.reader;
  sessions : sessions_read l.reader ≡ sessions_read l.fn.reader;
  more : (rest : List Entry) × (entries_read l.reader ≡ entries_read l.fn.reader ++ rest) × (length rest ≡ l._turn);
  reading : (bytes : List ℕ) → IsReading g.R.Read.remaining bytes l.fn.reader → IsReading g.R.Read.remaining bytes l.reader;
}
