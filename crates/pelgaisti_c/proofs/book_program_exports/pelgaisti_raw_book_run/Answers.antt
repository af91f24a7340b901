use Rattle.std.proofs.Common.{rules, ◌≡◌, Some, subst}
use Rattle.library_books.specs.declared.program_numbers.ProgramNumbers.{ProgramNumbers}
use Rattle.library_books.specs.Programs.{IsProgram}
use Rattle.pelgaisti_c.proofs.book_program_exports.pelgaisti_raw_book_run.Goals as goal

pub returns-clause-memory : goal.returns-clause-memory
returns-clause-memory c = λ e.
    let was : c.args.book.now.behind.held.book ≡ Some c.deref_mut.result.now = search rules in
    let told = c.run_program-status.ensures.memory e in
    let asked = told.1 in
    (c.deref_mut.result.now, was, told.0, (asked.0, subst (λ (n : ProgramNumbers). IsProgram n asked.0) c.in-Some-get.ensures.value.1 asked.1))
