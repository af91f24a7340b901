use Rattle.std.proofs.Common.{◌∙◌, rules}
use Rattle.csv.specs.Records.{fields_of}
use Rattle.lock_trace.proofs.EntryLaws.{seven}
use Rattle.lock_trace.proofs.entries.EntryRow.in_record.Goals as goal

pub returns : goal.returns
returns c = c.entry_at.ensures ∙ seven c.args.sessions c.args.place (fields_of c.args.row.now) (search rules)
