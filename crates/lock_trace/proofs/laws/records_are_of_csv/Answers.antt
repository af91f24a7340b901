use Rattle.lock_trace.proofs.CsvRecords.{are_records, only_records}
use Rattle.lock_trace.proofs.laws.records_are_of_csv.Goals as goal

pub returns : goal.returns
returns c = record { are = are_records; only = only_records }
