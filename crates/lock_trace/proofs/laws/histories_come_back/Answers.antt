use Rattle.lock_trace.proofs.HistoryLaws.{read_back}
use Rattle.lock_trace.proofs.laws.histories_come_back.Goals as goal

pub returns : goal.returns
returns c = read_back
