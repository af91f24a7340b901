use Rattle.std.proofs.Common.{List, subst, sym}
use Rattle.std.specs.List.{All}
use Rattle.lock_office.specs.ProgramBoards.{TicketView}
use Rattle.lock_office.specs.Closed.{IsClosed}
use Rattle.lock_office.specs.Sessions.{IsSessionOf}
use Rattle.run_commands.specs.Streams.{IsNeverRefused}
use Rattle.run_commands.proofs.running_in_pieces.close_streamed.Goals as goal

pub close-requires : goal.close-requires
close-requires c = record { ours = subst (All (IsSessionOf c.args.office)) (sym c.in-Ok.ensures.items) c.requires.ours }

pub unreachable-requires : goal.unreachable-requires
unreachable-requires c =
    subst (λ (all : List TicketView). IsNeverRefused c.args.office all) (sym c.in-Ok.ensures.items) c.requires.closes
    _ c.in_default-close.ensures.missing c.in_default-close.ensures.unsettled

pub returns : goal.returns
returns c =
    let closed = c.in-Ok-close.ensures.ok in
    (c.in-Ok-close.programs, (subst (λ (all : List TicketView). IsClosed c.args.office all c.in-Ok-close.programs) c.in-Ok.ensures.items closed, c.into_object.ensures.history))
