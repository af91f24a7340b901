use Rattle.lock_desk.proofs.CallsCounted.{call-counted}
use Rattle.lock_desk.proofs.call_counts.CallCounts.note.Goals as goal

pub returns : goal.returns
returns c = λ history session call is counted few.
    call-counted history session call c.args.reply.now c.args.op c.kind.result c.args.self.now c.note_reply.new.self c.note_refusal.new.self is c.kind.ensures
    counted few c.note_reply.ensures.counted c.note_reply.ensures.others c.note_refusal.ensures.counted c.note_refusal.ensures.others
