use Rattle.csv.specs.Records.{fields_of}
use Rattle.lock_trace.proofs.RecordSteps.{read_next}
use Rattle.lock_trace.proofs.reading.next_record.Goals as goal

pub returns-in-Ok-clause-next : goal.returns-in-Ok-clause-next
returns-in-Ok-clause-next g c bytes known =
    let read = c.in-Ok.ensures.reads c.requires.trim c.requires.ready in
    read_next g.R.Read.remaining c.args.reader.now c.read_byte_record.new.self c.in-Ok.found (fields_of c.read_byte_record.new.row) bytes c.requires.config known read
