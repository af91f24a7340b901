use Rattle.std.proofs.Common.{◌∙◌, arith}
use Rattle.lock_programs.specs.Answers.{replies_of}
use Rattle.library_books.proofs.Programs.{stop_last}
use Rattle.library_books.proofs.program_numbers.stop_of.Goals as goal

pub returns : goal.returns
returns c =
    let replies = replies_of c.args.program.now c.args.answer.now in
    c.stop_number.ensures ∙ stop_last replies _ c.reply.result c.reply.ensures (omega (arith, c.requires, c.if-served-eq0.false))
