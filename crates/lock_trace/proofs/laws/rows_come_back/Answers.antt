use Rattle.lock_trace.proofs.ReadBack.{history_back}
use Rattle.lock_trace.proofs.laws.rows_come_back.Goals as goal

pub returns : goal.returns
returns c = history_back
