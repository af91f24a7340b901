use Rattle.library_books.proofs.Programs.{run_on_book}
use Rattle.library_books.proofs.program_calls.run.Goals as goal

pub returns-clause-done : goal.returns-clause-done
returns-clause-done c =
    let e = c.in_ok-answer.ensures in
    run_on_book c.args.book.now c.run.new.object c.args.session c.args.program.now c.in_ok-answer.answer e.done e.sessions e.cut e.bound e.legal e.tells
