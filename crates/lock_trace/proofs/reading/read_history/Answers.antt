use Rattle.lock_trace.proofs.HistoryLaws.{history_format}
use Rattle.lock_trace.proofs.reading.read_history.Goals as goal

pub read_rows-requires : goal.read_rows-requires
read_rows-requires g c = record { format = history_format c.args.sessions c.ranges.sessions.fits }
