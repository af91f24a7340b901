use Rattle.std.proofs.Common.{◌≡◌, ℕ, List, length}
use Rattle.lock_rules.specs.Legal.{IsLegal}
use Rattle.lock_trace.specs.HistoryReaders.{IsOpen, IsReading, entries_read, sessions_read}
use Rattle.replay_commands.proofs.checking_by_row.judge_rows.Given as goal

-- the entries that were read are legal and are the book's history, one more each turn
abbrev pub invariant-loop-turn : goal.invariant-loop-turn
invariant-loop-turn g l = record {
  ready : IsOpen l.reader;
  sessions : sessions_read l.reader ≡ sessions_read l.fn.reader;
  book : l.book.sessions ≡ sessions_read l.fn.reader;
  entries : l.book.history ≡ entries_read l.reader;
  legal : IsLegal l.book.history;
  turns : length (entries_read l.reader) ≡ l._turn;
  reading : (bytes : List ℕ) → IsReading g.R.Read.remaining bytes l.fn.reader → IsReading g.R.Read.remaining bytes l.reader;
}
