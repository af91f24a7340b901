use Rattle.lock_trace.proofs.TraceLaws.{trace_format}
use Rattle.lock_trace.proofs.reading.read_trace.Goals as goal

pub read_rows-requires : goal.read_rows-requires
read_rows-requires g c = record { format = trace_format c.args.sessions c.ranges.sessions.fits }
