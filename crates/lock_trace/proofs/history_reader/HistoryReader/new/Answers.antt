use Rattle.std.proofs.Common.{[], arith, refl}
use Rattle.std.proofs.lemmas.List.Elements.{All-nil}
use Rattle.lock_trace.specs.Entries.{IsEntry}
use Rattle.lock_trace.specs.Records.{records_of}
use Rattle.lock_trace.proofs.history_reader.HistoryReader.new.Goals as goal

-- without memory for a row, none was read
pub returns-in_default-clause-fault : goal.returns-in_default-clause-fault
returns-in_default-clause-fault g c bytes known = record {
  text = λ not. absurd cc;
  machine = λ is. (records_of bytes, record { front = []; are_rows = All-nil (IsEntry c.args.sessions); records_are = refl; number = omega arith });
}
