use Rattle.std.proofs.Common.{◌≡◌, ◌∙◌, ◌∷◌, ⊎_elim, ap}
use Rattle.lock_programs.specs.Answers.{program_form}
use Rattle.publication.proofs.RealTime.{still-ruled, accounted}
use Rattle.lock_office.proofs.by_calls.WakeUps.{told-to-wait}
use Rattle.programs.proofs.Sessions.{calls_of-flat}
use Rattle.lock_office.specs.ProgramBoards.{flat_history, history_of, calls_answered, program_object}
use Rattle.lock_office.proofs.InTime.{board-legal}
use Rattle.lock_office.proofs.WakeUps.{waits-or-ended-here, listed-there}
use Rattle.lock_office.proofs.laws.ended_waits_are_listed.Goals as goal

pub returns-clause-waits_or_ended : goal.returns-clause-waits_or_ended
returns-clause-waits_or_ended c n load s u ready untaken run wait =
    let ruled = still-ruled (c.boards_open_with_an_empty_history.ensures.ruled n load ready untaken) run in
    waits-or-ended-here s (c.each_place_is_entered_once.ensures n load s ready untaken run) (board-legal s ruled) u wait

pub returns-clause-listed : goal.returns-clause-listed
returns-clause-listed c n s since u k index places list end some few told at = listed-there n s since u k index end some few told at

pub returns-clause-told_to_wait : goal.returns-clause-told_to_wait
returns-clause-told_to_wait c s u answers place before call ruled has are =
    ⊎_elim
    (λ calls. told-to-wait _ u before place call (calls_of-flat program_form u (history_of s) (board-legal s ruled).1 ∙ (ap calls_answered calls ∙ are)))
    (λ more. absurd (let e = more.4 in cc e))
    (accounted {obj = program_object} s ruled u _ _ has)
