use Rattle.std.proofs.Common.{sym, subst}
use Rattle.publication.specs.Boards.{HasCallsOf}
use Rattle.lock_office.specs.ProgramBoards.{TicketView}
use Rattle.lock_office.proofs.session.Session.take_oldest.Goals.{in-Some, in_default}
use Rattle.lock_office.proofs.session.Session.take_oldest.Goals as goal

pub returns-clause-calls : goal.returns-clause-calls
returns-clause-calls c =
    elim c.match-taken.branch [
      | in-Some w ↦ subst (λ (x : TicketView). HasCallsOf x.front x) (sym w.self-is) c.in_ok-taken.ensures.calls
      | in_default w ↦ subst (λ (x : TicketView). HasCallsOf x.front x) (sym w.self-is) c.in_ok-taken.ensures.calls
    ]
