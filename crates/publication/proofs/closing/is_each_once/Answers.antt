use Rattle.std.proofs.Common.{rules, ◌≡◌, length, take, ap, ◌∙◌, List}
use Rattle.std.proofs.lemmas.List.{take_all}
use Rattle.sequential.specs.declared.entry.TheConstants.{MAX_SESSIONS}
use Rattle.publication.specs.Views.{TicketView}
use Rattle.publication.specs.Rolls.{is_called}
use Rattle.publication.proofs.Gathering.{has_number, each_once_tells}
use Rattle.publication.proofs.closing.is_each_once.Goals as goal

pub returns : goal.returns
returns g c =
    let ts : List (TicketView _ _) = c.args.tickets.now in
    let many : length ts ≡ c.args.sessions = search rules in
    let whole : take c.loop-ticket.ticket-index ts ≡ ts = take_all c.loop-ticket.ticket-index ts (search rules) in
    each_once_tells c.args.sessions MAX_SESSIONS ts (is_called c.loop-ticket.roll) c.has_all.result many c.requires.few
    (λ k le. c.loop-ticket.invariant k le ∙ ap (has_number k) whole)
    c.has_all.ensures
