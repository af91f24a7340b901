use Rattle.std.proofs.Common.{rules, ◌≡◌, ◌+◌, ◌∷◌, ◌++◌, ◌∙◌, true, false, List, [], map, sym, ap, subst}
use Rattle.std.specs.Prelude.{All}
use Rattle.publication.specs.Views.{TicketView, Handed}
use Rattle.publication.specs.Boards.{IsOf, IsSettled}
use Rattle.publication.specs.inner.Closing.{handed_by, WereHanded, AreEnded, TookHanded}
use Rattle.publication.proofs.Gathering.{map_push, all_before, settled_tells, were_handed, all_accounted, all_took}
use Rattle.publication.proofs.board.Board.gather.Goals as goal

module _ {C R : Type 0} where
  -- The closing seat took all tickets in, the last one behind the others.
  whole : (ts others : List (TicketView C R)) (last last' : TicketView C R) → ts ≡ others ++ last ∷ [] → last' ≡ last → (none first all : List (Handed C R)) → none ≡ [] → first ≡ none ++ map handed_by others
      → all ≡ first ++ handed_by last' ∷ [] → all ≡ map handed_by ts
  whole ts others last last' split same none first all empty are is =
      is ∙ (ap (λ (l : List (Handed C R)). l ++ handed_by last' ∷ []) (are ∙ ap (λ (l : List (Handed C R)). l ++ map handed_by others) empty)
      ∙ (ap (λ (t : TicketView C R). map handed_by others ++ handed_by t ∷ []) same ∙ (sym (map_push handed_by others last) ∙ ap (λ (l : List (TicketView C R)). map handed_by l) (sym split))))

pub finish-requires-clause-all : goal.finish-requires-clause-all
finish-requires-clause-all g c =
    let ts : List (TicketView _ _) = c.args.tickets.items in
    let all : c.join_ticket.new.closing.me.0.others.handed ≡ map handed_by ts =
    whole ts c.pop.new.self.items c.in-Some.last c.split_copy-closing.new.ticket (search rules) c.split_copy-closing.ensures.ticket c.split_copy-closing.result.me.0.others.handed c.join_tickets.new.closing.me.0.others.handed
    c.join_ticket.new.closing.me.0.others.handed c.split_copy-closing.ensures.seat.1 c.join_tickets.ensures.handed c.join_ticket.ensures.handed in
    subst (WereHanded (c.args.self.sessions + 1)) (sym all) (were_handed c.args.self.sessions ts (search rules))

pub returns-then-not-are_settled-clause-unsettled : goal.returns-then-not-are_settled-clause-unsettled
returns-then-not-are_settled-clause-unsettled g c fault =
    let ts : List (TicketView _ _) = c.args.tickets.items in
    let tells = settled_tells ts c.are_settled.result (search rules) in
    let no : c.are_settled.result ≡ false = search rules in
    (search rules, λ all. let yes : c.are_settled.result ≡ true = tells.1 all in absurd (cc (no, yes)))

pub join_tickets-requires-clause-ours : goal.join_tickets-requires-clause-ours
join_tickets-requires-clause-ours g c =
    let split : c.args.tickets.items ≡ c.pop.new.self.items ++ c.in-Some.last ∷ [] = search rules in
    (search rules, all_before (IsOf c.args.self) c.pop.new.self.items c.in-Some.last (subst (λ (l : List (TicketView _ _)). All (IsOf c.args.self) l) split c.requires.ours))

pub join_tickets-requires-clause-settled : goal.join_tickets-requires-clause-settled
join_tickets-requires-clause-settled g c =
    let split : c.args.tickets.items ≡ c.pop.new.self.items ++ c.in-Some.last ∷ [] = search rules in
    let settled : All IsSettled c.args.tickets.items = (settled_tells c.args.tickets.items c.are_settled.result (search rules)).0 (search rules) in
    all_before IsSettled c.pop.new.self.items c.in-Some.last (subst (λ (l : List (TicketView _ _)). All IsSettled l) split settled)

pub returns-clause-settled : goal.returns-clause-settled
returns-clause-settled g c = (settled_tells c.args.tickets.items c.are_settled.result (search rules)).0 (search rules)

pub returns-clause-accounts : goal.returns-clause-accounts
returns-clause-accounts g c =
    let ts : List (TicketView _ _) = c.args.tickets.items in
    let all : c.join_ticket.new.closing.me.0.others.handed ≡ map handed_by ts =
    whole ts c.pop.new.self.items c.in-Some.last c.split_copy-closing.new.ticket (search rules) c.split_copy-closing.ensures.ticket c.split_copy-closing.result.me.0.others.handed c.join_tickets.new.closing.me.0.others.handed
    c.join_ticket.new.closing.me.0.others.handed c.split_copy-closing.ensures.seat.1 c.join_tickets.ensures.handed c.join_ticket.ensures.handed in
    all_accounted (g.O.Sequential.history c.finish.result) ts (subst (AreEnded (g.O.Sequential.history c.finish.result)) all c.finish.ensures.ends)

pub returns-clause-pieces : goal.returns-clause-pieces
returns-clause-pieces g c =
    let ts : List (TicketView _ _) = c.args.tickets.items in
    let all : c.join_ticket.new.closing.me.0.others.handed ≡ map handed_by ts =
    whole ts c.pop.new.self.items c.in-Some.last c.split_copy-closing.new.ticket (search rules) c.split_copy-closing.ensures.ticket c.split_copy-closing.result.me.0.others.handed c.join_tickets.new.closing.me.0.others.handed
    c.join_ticket.new.closing.me.0.others.handed c.split_copy-closing.ensures.seat.1 c.join_tickets.ensures.handed c.join_ticket.ensures.handed in
    all_took c.finish.result ts (subst (TookHanded g.O.Sequential c.finish.result) all c.finish.ensures.pieces)
