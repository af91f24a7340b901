use Rattle.lock_office.proofs.OneReplies.{some-replies}
use Rattle.lock_office.proofs.Sessions.{last-reply}
use Rattle.library_sessions.proofs.turn_calls.AnswerNumbersTells.tell.Goals as goal

pub last_of-last-requires : goal.last_of-last-requires
last_of-last-requires c = record { served = some-replies c.args.program.now c.args.answer.now c.requires.some c.requires.fits }

pub returns : goal.returns
returns c =
    let last = c.last_of-last.result in
    let told = c.last_of-last.ensures in
    (last.reply, last-reply c.args.program.now c.args.answer.now last.place last.reply c.requires.fits told.last told.first, c.reply_numbers.ensures)
