use Rattle.lock_trace.proofs.RowLaws.{row_iff}
use Rattle.lock_trace.proofs.laws.rows_are_their_fields.Goals as goal

pub returns : goal.returns
returns c = row_iff
