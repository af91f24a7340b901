use Rattle.std.proofs.Common.{List, sym, subst}
use Rattle.std.specs.List.{All}
use Rattle.publication.specs.Views.{TicketView}
use Rattle.combining.specs.Sessions.{IsSessionOf, IsIdle}
use Rattle.combining.proofs.NewSessions.{new_sessions_idle}
use Rattle.combining.proofs.office.Office.share.Goals as goal

pub returns-clause-ready : goal.returns-clause-ready
returns-clause-ready g c = let b = c.in_ok-board.board in let n = g.O.Sequential.sessions c.args.object in
    subst (λ (sessions : List (TicketView _ _)). All (λ session. IsSessionOf b session × IsIdle session) sessions) (sym c.in_ok-board.ensures.tickets) (new_sessions_idle _ _ b n n)
