use Rattle.std.proofs.Common.{◌≡◌, ◌+◌, ◌∷◌, [], length, length-append, rules, arith, ap, ◌∙◌, refl}
use Rattle.std.proofs.lemmas.List.Elements.{All-push}
use Rattle.lock_trace.specs.Entries.{IsEntry}
use Rattle.lock_trace.specs.Records.{records_on, records_of}
use Rattle.lock_trace.proofs.FileSteps.{one_more_row, all_rows, tells}
use Rattle.lock_trace.proofs.HistoryLaws.{history_format}
use Rattle.lock_trace.proofs.history_reader.HistoryReader.next.Goals as goal

pub next_row-requires-clause-format : goal.next_row-requires-clause-format
next_row-requires-clause-format g c = history_format c.args.self.now.sessions (search rules)

pub returns-in-Ok-Some-clause-entry : goal.returns-in-Ok-Some-clause-entry
returns-in-Ok-Some-clause-entry g c =
    let is_entry = rw c.in-Ok-Some.field-0-is at c.in-Ok-Some.ensures.row in
    let more = c.push.ensures in
    let longer : length c.push.new.self.items ≡ length c.args.self.now.told.items + 1 = ap length more ∙ length-append c.args.self.now.told.items (c.in-Ok-Some.entry ∷ []) in
    record {
      ready = record {
        reading = (rw c.in-Ok-Some.field-0-is at c.in-Ok-Some.ensures.reading) (search rules);
        entries = rw more (All-push (IsEntry c.args.self.now.sessions) c.args.self.now.told.items c.in-Ok-Some.entry c.requires.ready.entries is_entry);
        place = omega (arith, c.requires.ready.place, longer);
        few = let other = c.if-number.false in omega (arith, c.requires.ready.few, other);
      };
      sessions = refl;
      is_entry = is_entry;
      entries = more;
    }

pub returns-in-Ok-Some-clause-reads : goal.returns-in-Ok-Some-clause-reads
returns-in-Ok-Some-clause-reads g c bytes reading =
    let past = rw (c.in-Ok-Some.is, c.in-Ok-Some.field-0-is) at (c.next_row.ensures.next reading.left reading.source) in
    let rest = records_on c.next_row.new.reader.state [] [] past.bytes in
    let more = one_more_row (history_format c.args.self.now.sessions (search rules)) (records_of bytes) rest (records_on c.args.self.now.reader.state [] [] reading.left)
    c.args.self.now.told.items c.in-Ok-Some.entry c.args.self.now.place c.requires.ready.place reading.so_far past.all_are in
    record { left = past.bytes; source = past.source; so_far = rw c.push.ensures more }

pub returns-in-Ok-None-clause-reads : goal.returns-in-Ok-None-clause-reads
returns-in-Ok-None-clause-reads g c bytes reading =
    let next = rw (c.in-Ok-None.is, c.in-Ok-None.field-0-is) at (c.next_row.ensures.next reading.left reading.source) in
    all_rows (history_format c.args.self.now.sessions (search rules)) (records_of bytes) (records_on c.args.self.now.reader.state [] [] reading.left)
    c.args.self.now.told.items c.requires.ready.entries reading.so_far next

pub returns-in-Err-clause-reads : goal.returns-in-Err-clause-reads
returns-in-Err-clause-reads g c bytes reading =
    let next = c.in-Err.ensures.next reading.left reading.source in
    tells (history_format c.args.self.now.sessions (search rules)) g.R.Read.remaining (records_of bytes) (records_on c.args.self.now.reader.state [] [] reading.left)
    c.args.self.now.told.items c.args.self.now.place c.next_row.new.reader c.in-Err.kind c.requires.ready.entries reading.so_far c.requires.ready.place next
