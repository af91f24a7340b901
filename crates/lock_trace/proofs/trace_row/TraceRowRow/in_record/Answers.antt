use Rattle.std.proofs.Common.{◌∙◌, rules}
use Rattle.csv.specs.Records.{fields_of}
use Rattle.lock_trace.proofs.RowLaws.{four}
use Rattle.lock_trace.proofs.trace_row.TraceRowRow.in_record.Goals as goal

pub returns : goal.returns
returns c =
    let read = rw (c.field_at.ensures, c.field_at-2.ensures, c.field_at-3.ensures, c.field_at-4.ensures) at c.read_row.ensures in
    read ∙ four c.args.sessions (fields_of c.args.row.now) (search rules)
