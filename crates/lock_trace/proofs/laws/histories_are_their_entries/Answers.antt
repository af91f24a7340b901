use Rattle.lock_trace.proofs.HistoryLaws.{history_rows, history_fault}
use Rattle.lock_trace.proofs.laws.histories_are_their_entries.Goals as goal

pub returns : goal.returns
returns c = record { entries = history_rows; fault = history_fault }
