use Rattle.std.proofs.Common.{ℕ, subst}
use Rattle.library_books.specs.Programs.{HasRun}
use Rattle.library_books.proofs.program_calls.run_program.Goals as goal

pub returns-in_default-run-clause-memory : goal.returns-in_default-run-clause-memory
returns-in_default-run-clause-memory c = λ _. (c.in-Some.ensures.some.1, (c.in-Ok.program, c.in-Ok.ensures.ok))

pub returns-clause-ran : goal.returns-clause-ran
returns-clause-ran c = λ _. (
  c.in-Some.ensures.some.1,
  record {
    program = c.in-Ok.program;
    made = c.in-Ok-run.made;
    is_asked = c.in-Ok.ensures.ok;
    ran = subst (λ (s : ℕ). HasRun c.args.book.now c.run.new.book s c.in-Ok.program c.in-Ok-run.made) c.in-Some.ensures.some.0 c.in-Ok-run.ensures.done;
    told = c.write_answer.ensures;
  },
)
