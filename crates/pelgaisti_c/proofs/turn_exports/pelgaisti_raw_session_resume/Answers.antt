use Rattle.std.proofs.Common.{rules, ◌≡◌, Some, subst, ◌==◌, length}
use Rattle.lock_programs.specs.Calls.{calls_of}
use Rattle.lock_programs.specs.declared.program.Program.{Program}
use Rattle.library_books.specs.declared.numbers.AnswerNumbers.{AnswerNumbers}
use Rattle.library_sessions.specs.Turns.{TellsLast, HasMadeLook}
use Rattle.pelgaisti_c.proofs.turn_exports.pelgaisti_raw_session_resume.Goals as goal

pub returns-clause-look : goal.returns-clause-look
returns-clause-look c = λ _ _.
    let was : c.args.session.now.behind.held.share ≡ Some c.deref_mut.result.now = search rules in
    let before : c.in-Some-get.value.now ≡ c.args.answer.now.behind = search rules in
    let made = c.look-status in (
      c.deref_mut.result.now,
      made.new.share,
      was,
      c.put.ensures.1,
      subst (λ (unanswered : AnswerNumbers). HasMadeLook TellsLast (λ (program : Program). length (calls_of program) == 1) c.deref_mut.result.now made.new.share
          c.args.tries unanswered made.new.answer c.args.told.now made.new.told made.result) before made.ensures.look,
    )
