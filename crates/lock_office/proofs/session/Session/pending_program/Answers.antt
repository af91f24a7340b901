use Rattle.std.proofs.Common.{◌∙◌, ap}
use Rattle.lock_office.specs.ProgramBoards.{TicketView}
use Rattle.lock_office.proofs.Sessions.{kept-some}
use Rattle.lock_office.proofs.session.Session.pending_program.Goals as goal

pub returns : goal.returns
returns c = λ program floor pending.
    kept-some program c.self.inside.asked (c.self.invariant.readable program floor (ap (λ (t : TicketView). t.pending) c.self.view_is ∙ pending))
