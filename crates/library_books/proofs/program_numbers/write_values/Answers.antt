use Rattle.std.proofs.Common.{◌≡◌, suc, ◌+◌, set, ap, ◌∙◌, arith}
use Rattle.lock_programs.specs.Answers.{replies_of}
use Rattle.library_books.specs.Calls.{written}
use Rattle.library_books.specs.Programs.{value_of_reply}
use Rattle.library_books.specs.declared.numbers.ReplyNumbers.{ReplyNumbers}
use Rattle.library_books.proofs.Writing.{next_told}
use Rattle.library_books.proofs.program_numbers.write_values.Goals as goal

pub loop-k-preserved : goal.loop-k-preserved
loop-k-preserved c =
    let k = c.loop-k.k in
    let replies = replies_of c.args.program.now c.args.answer.now in
    let places = c.args.places.now in
    let suc_is : suc k ≡ k + 1 = omega arith in
    ap (λ ys. set ys k c.reply_numbers.result.value) c.loop-k.invariant ∙ ap (λ (v : ReplyNumbers). set (written value_of_reply k replies places) k v.value) c.reply_numbers.ensures
    ∙ next_told value_of_reply k replies places c.reply.result c.reply.ensures (omega (arith, c.loop-k-test.true, c.requires.few, c.requires.places))
    ∙ ap (λ j. written value_of_reply j replies places) suc_is
