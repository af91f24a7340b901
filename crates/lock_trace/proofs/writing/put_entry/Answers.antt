use Rattle.std.proofs.Common.{take}
use Rattle.std.specs.Prelude.{decimal}
use Rattle.lock_trace.specs.Rows.{fields_of_call}
use Rattle.lock_trace.specs.Histories.{fields_of_reply}
use Rattle.lock_trace.proofs.Lines.{entry_line}
use Rattle.lock_trace.proofs.writing.put_entry.Goals as goal

pub returns-clause-text : goal.returns-clause-text
returns-clause-text c =
    entry_line (take 0 c.args.line.now) _ _ _ _ _ _ (decimal c.args.place) (decimal c.args.entry.now.session) (fields_of_call c.args.entry.now.call) (fields_of_reply c.args.entry.now.reply)
    c.put_number-after_place.ensures.text c.put_byte-after_comma.ensures.text c.put_number-after_session.ensures.text c.put_call-after_call.ensures.text c.put_reply-after_reply.ensures.text c.put_byte.ensures.text
