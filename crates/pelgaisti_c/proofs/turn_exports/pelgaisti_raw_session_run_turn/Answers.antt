use Rattle.std.proofs.Common.{rules, ◌≡◌, Some, subst}
use Rattle.library_books.specs.declared.program_numbers.ProgramNumbers.{ProgramNumbers}
use Rattle.library_books.specs.declared.program_numbers.ProgramAnswerNumbers.{ProgramAnswerNumbers}
use Rattle.library_sessions.specs.Turns.{IsOfCalls, IsRunFault, TellsAll, HasMadeTurn}
use Rattle.pelgaisti_c.proofs.turn_exports.pelgaisti_raw_session_run_turn.Goals as goal

pub returns-clause-turn : goal.returns-clause-turn
returns-clause-turn c = λ _ _.
    let was : c.args.session.now.behind.held.share ≡ Some c.deref_mut.result.now = search rules in
    let same : c.in-Some-get.value ≡ c.args.program.now.behind = search rules in
    let before : c.in-Some-get-2.value.now ≡ c.args.answer.now.behind = search rules in
    let made = c.turn-status in
    let turned = subst (λ (asked : ProgramNumbers). HasMadeTurn IsOfCalls IsRunFault TellsAll c.deref_mut.result.now made.new.share asked c.args.tries c.in-Some-get-2.value.now made.new.answer c.args.told.now made.new.told made.result) same made.ensures.turn in (
      c.deref_mut.result.now,
      made.new.share,
      was,
      c.put.ensures.1,
      subst (λ (unanswered : ProgramAnswerNumbers). HasMadeTurn IsOfCalls IsRunFault TellsAll c.deref_mut.result.now made.new.share c.args.program.now.behind
          c.args.tries unanswered made.new.answer c.args.told.now made.new.told made.result) before turned,
    )
