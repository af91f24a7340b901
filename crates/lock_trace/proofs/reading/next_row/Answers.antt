use Rattle.std.proofs.Common.{[], rules}
use Rattle.csv.specs.Records.{fields_of}
use Rattle.lock_trace.specs.Records.{records_on}
use Rattle.lock_trace.proofs.FileSteps.{is_row, past_row, past_bad}
use Rattle.lock_trace.proofs.reading.next_row.Goals as goal

pub returns-in-Ok-clause-row : goal.returns-in-Ok-clause-row
returns-in-Ok-clause-row g c = is_row c.requires.format c.args.place (fields_of c.next_record.new.row) c.in-Ok.found c.in-Ok.ensures

pub returns-in-Ok-clause-next : goal.returns-in-Ok-clause-next
returns-in-Ok-clause-next g c bytes known =
    past_row c.requires.format g.R.Read.remaining c.args.place (records_on c.args.reader.now.state [] [] bytes) c.next_record.new.reader (fields_of c.next_record.new.row) c.in_ok-next_record.field-0 c.in-Ok.found
    (search rules) (c.in_ok-next_record.ensures.next bytes known) c.in-Ok.ensures

pub returns-in-Err-clause-next : goal.returns-in-Err-clause-next
returns-in-Err-clause-next g c bytes known not =
    past_bad g.R.Read.remaining (g.T.Row.read c.args.sessions c.args.place) (records_on c.args.reader.now.state [] [] bytes) c.next_record.new.reader (fields_of c.next_record.new.row) c.in_ok-next_record.field-0 c.in-Err.kind
    (search rules) (c.in_ok-next_record.ensures.next bytes known) c.in-Err.ensures
