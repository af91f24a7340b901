use Rattle.std.proofs.Common.{◌≡◌, ◌-◌, ◌^◌, take, map}
use Rattle.lock_trace.specs.Histories.{row_of_entry}
use Rattle.replay_commands.proofs.replaying.serve_all.Given as goal

-- the calls of the history are those of the rows so far, and the book keeps all
abbrev pub invariant-loop-row : goal.invariant-loop-row
invariant-loop-row l = record {
  calls : map row_of_entry l.book.history ≡ take l.row-index l.rows;
  sessions : l.book.sessions ≡ l.sessions;
  cut : l.book.cut ≡ 0;
  bound : l.book.bound ≡ 2 ^ 64 - 1;
}
