use Rattle.std.proofs.Common.{rules, ◌≡◌, Some, subst, true}
use Rattle.lock_programs.specs.declared.program.Program.{Program}
use Rattle.library_books.specs.declared.program_numbers.ProgramAnswerNumbers.{ProgramAnswerNumbers}
use Rattle.library_sessions.specs.Turns.{TellsAll, HasMadeLook}
use Rattle.pelgaisti_c.proofs.turn_exports.pelgaisti_raw_session_run_resume.Goals as goal

pub returns-clause-look : goal.returns-clause-look
returns-clause-look c = λ _ _.
    let was : c.args.session.now.behind.held.share ≡ Some c.deref_mut.result.now = search rules in
    let before : c.in-Some-get.value.now ≡ c.args.answer.now.behind = search rules in
    let made = c.look-status in (
      c.deref_mut.result.now,
      made.new.share,
      was,
      c.put.ensures.1,
      subst (λ (unanswered : ProgramAnswerNumbers). HasMadeLook TellsAll (λ (_ : Program). true) c.deref_mut.result.now made.new.share
          c.args.tries unanswered made.new.answer c.args.told.now made.new.told made.result) before made.ensures.look,
    )
