use Rattle.std.proofs.Common.{rules, suc, refl, ◌≡◌, ◌+◌, ◌∷◌, ◌++◌, ◌∙◌, ℕ, List, [], length, length-append, append_assoc, sym, ap, subst, arith}
use mathlib.Core.Option as opt
use lib.ListN.{get_elem?}
use Rattle.atomic_table.specs.declared.shared.Seat.{Seat}
use Rattle.atomic_table.specs.Seated.{TableId}
use Rattle.publication.specs.Views.{TicketView}
use Rattle.publication.specs.Boards.{new_ticket, new_tickets}
use Rattle.publication.specs.Rule.{new_session}
use Rattle.publication.specs.inner.Tickets.{AreNewSeats}
use Rattle.publication.specs.declared.view.View.{View}
use Rattle.publication.specs.declared.slot.SlotValue.{SlotValue}
use Rattle.publication.proofs.Gathering.{at_middle}
use Rattle.publication.proofs.board.enrol_all.Goals as goal

-- The tickets of one session more.
one_more : {C R : Type 0} (id : TableId) (n k m : ℕ) → suc k ≡ m → new_tickets {C = C} {R = R} id n k ++ new_ticket id n m ∷ [] ≡ new_tickets id n m
one_more {C} {R} id n k m e = subst (λ (j : ℕ). new_tickets {C = C} {R = R} id n k ++ new_ticket id n j ∷ [] ≡ new_tickets id n j) e refl

pub enrol-requires-clause-ours : goal.enrol-requires-clause-ours
enrol-requires-clause-ours g c = let taken = c.loop-seat.yielded in let seat = c.in-Some.seat in
    let next : c.loop-seat.seat-iterator.rest.items ≡ seat ∷ c.next.new.self.rest.items = search rules in
    let split : taken ++ c.loop-seat.seat-iterator.rest.items ≡ taken ++ seat ∷ c.next.new.self.rest.items = ap (λ (l : List (Seat (SlotValue _ _ _) (View _ _))). taken ++ l) next in
    let t = c.loop-seat.invariant.4 (length taken) seat (subst (λ (l : List (Seat (SlotValue _ _ _) (View _ _))). get_elem? l (length taken) ≡ opt.some seat) (sym split) (at_middle taken seat c.next.new.self.rest.items)) in
    (search rules, t.0)

pub enrol-requires-clause-new : goal.enrol-requires-clause-new
enrol-requires-clause-new g c = let taken = c.loop-seat.yielded in let seat = c.in-Some.seat in let n = c.args.sessions in
    let next : c.loop-seat.seat-iterator.rest.items ≡ seat ∷ c.next.new.self.rest.items = search rules in
    let split : taken ++ c.loop-seat.seat-iterator.rest.items ≡ taken ++ seat ∷ c.next.new.self.rest.items = ap (λ (l : List (Seat (SlotValue _ _ _) (View _ _))). taken ++ l) next in
    let t = c.loop-seat.invariant.4 (length taken) seat (subst (λ (l : List (Seat (SlotValue _ _ _) (View _ _))). get_elem? l (length taken) ≡ opt.some seat) (sym split) (at_middle taken seat c.next.new.self.rest.items)) in
    subst (λ (k : ℕ). seat.me ≡ (new_session (n + 1) (k + 1), [])) (sym c.loop-seat.invariant.2) t.1

pub loop-seat-preserved : goal.loop-seat-preserved
loop-seat-preserved g c = let taken = c.loop-seat.yielded in let seat = c.in-Some.seat in let later = c.next.new.self.rest.items in let n = c.args.sessions in
    let next : c.loop-seat.seat-iterator.rest.items ≡ seat ∷ later = search rules in
    let split : taken ++ c.loop-seat.seat-iterator.rest.items ≡ (taken ++ seat ∷ []) ++ later = ap (λ (l : List (Seat (SlotValue _ _ _) (View _ _))). taken ++ l) next ∙ sym (append_assoc taken (seat ∷ []) later) in (
      search rules,
      search rules,
      omega (arith, c.loop-seat.invariant.2, length-append taken (seat ∷ [])),
      c.in_ok-push.ensures.items ∙ (ap (λ (ts : List (TicketView _ _)). ts ++ c.enrol.result ∷ []) c.loop-seat.invariant.3
          ∙ (ap (λ (t : TicketView _ _). new_tickets c.args.shared.now.table_id n c.loop-seat.number ++ t ∷ []) c.enrol.ensures.ticket
          ∙ one_more c.args.shared.now.table_id n c.loop-seat.number (c.loop-seat.number + 1) (omega arith))),
      subst (AreNewSeats c.args.shared.now.table_id (n + 1)) split c.loop-seat.invariant.4,
    )
