use Rattle.lock_trace.proofs.TraceLaws.{trace_rows, trace_fault}
use Rattle.lock_trace.proofs.laws.traces_are_their_rows.Goals as goal

pub returns : goal.returns
returns c = record { rows = trace_rows; fault = trace_fault }
