use Rattle.lock_trace.specs.HistoryReaders.{entries_read, sessions_read}
use Rattle.replay_commands.proofs.WrongReplies.{found_before}
use Rattle.replay_commands.proofs.checking_by_row.found_behind.Goals as goal

pub returns-in-Ok : goal.returns-in-Ok
returns-in-Ok g c = record {
  finds = λ bytes reading.
      let (more, all) = c.in-Ok.ensures.rest bytes reading in
      found_before (sessions_read c.args.reader.now) bytes (entries_read c.args.reader.now) more c.args.found c.requires.found all;
}
