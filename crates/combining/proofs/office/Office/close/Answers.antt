use Rattle.std.proofs.Common.{rules, List, subst}
use Rattle.std.specs.Prelude.{All}
use Rattle.sequential.specs.Histories.{IsEntryWithin}
use Rattle.publication.specs.Views.{BoardView, TicketView}
use Rattle.publication.specs.Boards.{IsEachOnce, IsSettled, AccountsFor}
use Rattle.combining.specs.Closed.{IsClosed}
use Rattle.combining.proofs.AnswerCount.{counted}
use Rattle.combining.proofs.PendingSessions.{none_pending}
use Rattle.combining.proofs.office.Office.close.Goals as goal

pub returns-in-Ok-clause-ok : goal.returns-in-Ok-clause-ok
returns-in-Ok-clause-ok g c =
    let ts : List (TicketView _ _) = c.args.sessions.items in
    let n = c.self.inside.board.sessions in
    let object = c.in-Ok.object in
    let all : IsEachOnce n ts = c.in-Ok.ensures.all in
    let settled : All IsSettled ts = c.in-Ok.ensures.settled in
    let accounts : All (AccountsFor (g.O.Sequential.history object)) ts = c.in-Ok.ensures.accounts in
    let within : All (IsEntryWithin n) (g.O.Sequential.history object) = search rules in
    let closed : IsClosed g.O.Sequential c.self.inside.board ts object = record {
      all = all;
      settled = none_pending ts settled;
      sessions_are = c.in-Ok.ensures.sessions;
      bound_is = c.in-Ok.ensures.bound;
      legal = c.in-Ok.ensures.legal;
      accounts = accounts;
      within = within;
      count = counted n ts (g.O.Sequential.history object) all within accounts;
      pieces = c.in-Ok.ensures.pieces;
    } in
    subst (λ (office : BoardView). IsClosed g.O.Sequential office ts object) c.self.view_is closed
