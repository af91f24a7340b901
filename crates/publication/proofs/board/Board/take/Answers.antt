use Rattle.std.proofs.Common.{rules, inl, ◌≡◌, ◌∷◌, ℕ, List, [], Bool, true, false, cond, is_some, length-append, refl, sym, ap, ◌∙◌, subst, arith}
use Rattle.atomic_table.specs.Table.{turned}
use Rattle.publication.specs.Views.{answer}
use Rattle.publication.specs.StepKinds.{Seated, taking}
use Rattle.publication.specs.inner.Tickets.{own_slot, object_slot, IsBetweenCalls}
use Rattle.publication.specs.declared.slot.SlotValue.{SlotValue}
use Rattle.publication.specs.declared.slot.SlotValue.TheVariants.{Empty}
use Rattle.publication.proofs.RecordStates.{at_most_one}
use Rattle.publication.proofs.board.Board.take.Goals as goal

swapped : {O C R : Type 0} (b : Bool) (n : ℕ) → cond {A = List (ℕ × SlotValue O C R)} b (turned ((n, Empty) ∷ object_slot b [])) ((n, Empty) ∷ object_slot b []) ≡ object_slot b ((n, Empty) ∷ [])
swapped true n = refl
swapped false n = refl

pub invariant_of-ticket-2 : goal.invariant_of-ticket-2
invariant_of-ticket-2 g c =
    let a = c.ticket.inside in let t = c.ticket.invariant.settled in let m = a.seat.me in let n = a.number in let b = a.has_object in
    let e = c.in_ok-place.ensures.some in
    let place = c.in_ok-place.place in let reply = c.in_ok-place.reply in
    let was_pending : a.is_pending ≡ true = sym t.pending ∙ ap is_some e.3 in
    let carried : m.1 ≡ object_slot b [] = t.carried ∙ ap (λ (p : Bool). object_slot b (own_slot p n)) was_pending in
    let w = taking m.0 c.collect_reply.new.seat.me.0.own.log e.2 e.0 place reply in
    let after : c.turn_if.new.seat.me ≡ (w, object_slot b ((n, Empty) ∷ [])) =
    c.turn_if.ensures.1 ∙ (ap (λ (x : Seated _ _ _). (x.0, cond b (turned x.1) x.1)) e.4 ∙ (ap (λ (l : List (ℕ × SlotValue _ _ _)). (w, cond b (turned ((m.0.number, Empty) ∷ l)) ((m.0.number, Empty) ∷ l))) carried
    ∙ (ap (λ (k : ℕ). (w, cond b (turned ((k, Empty) ∷ object_slot b [])) ((k, Empty) ∷ object_slot b []))) t.number_is ∙ ap (λ (l : List (ℕ × SlotValue _ _ _)). (w, l)) (swapped b n)))) in
    let longer = length-append m.0.own.collected (answer place e.0 reply ∷ []) in
    record {
      small = search rules;
      settled = subst (λ (x : Seated _ _ _). IsBetweenCalls x n c.max-ticket-inside.result b false a.is_listed a.is_retired) (sym after)
          record { number_is = t.number_is; some_number = t.some_number; seen_is = omega (arith, e.5.long, t.seen_is, c.max-ticket-inside.ensures); started = refl; retired = t.retired; pending = refl; object = t.object; hand = t.hand; heard_few = omega (arith, t.heard_few, at_most_one a.is_pending, longer); listed = t.listed; heard = λ p. absurd (cc p); no_head_seen = refl; whole = t.whole; routed = t.routed; wide = t.wide; all_made = t.all_made; accounted = inl e.5.calls; unknown = t.unknown; carried = refl };
    }
