use Rattle.std.proofs.Common.{rules, ◌≡◌, ◌+◌, ◌<◌, ℕ, Bool, true, false, length, get_or, refl, sym, subst, arith, length-set, get_or-set_same}
use Rattle.publication.specs.StepKinds.{Seated, enlisting, losing_head, heard_all}
use Rattle.publication.specs.inner.Tickets.{IsBetweenCalls}
use Rattle.publication.proofs.BetweenCalls.{still-between}
use Rattle.publication.proofs.board.Board.exchange_head.Goals as goal

module _ {O C R : Type 0} where
  -- A try to have the call listed leaves the seat between two calls, if the exchange of the head word is won.
  won : (m : Seated O C R) (number seen : ℕ) (has_object is_listed is_retired : Bool) → IsBetweenCalls m number seen has_object true is_listed is_retired
      → IsBetweenCalls (enlisting m.0, m.1) number seen has_object true true is_retired
  won m number seen has_object is_listed is_retired t =
      let v = m.0 in
      let there : v.number < length v.heard = subst (λ (k : ℕ). k < length v.heard) (sym t.number_is) t.wide in
      let here : get_or (heard_all v) number 0 ≡ length v.own.collected + 1 = subst (λ (k : ℕ). get_or (heard_all v) k 0 ≡ length v.own.collected + 1) t.number_is
      (get_or-set_same v.heard v.number (length v.own.collected + 1) 0 there) in
      record {
        number_is = t.number_is;
        some_number = t.some_number;
        seen_is = t.seen_is;
        started = t.started;
        retired = t.retired;
        pending = t.pending;
        object = t.object;
        hand = t.hand;
        listed = refl;
        heard_few = omega (arith, here);
        heard = λ _ _. here;
        wide = let l = length-set v.heard v.number (length v.own.collected + 1) in omega (arith, t.wide, l);
        all_made = t.all_made;
        accounted = t.accounted;
        no_head_seen = refl;
        whole = t.whole;
        routed = t.routed;
        unknown = t.unknown;
        carried = t.carried;
      }

pub invariant_of-ticket : goal.invariant_of-ticket
invariant_of-ticket g c =
    let a = c.ticket.inside in let t = c.ticket.invariant.settled in let r = c.enlist_record-ticket-inside.result in
    let waits : a.is_pending ≡ true = search rules in
    let unlisted : a.is_listed ≡ false = search rules in
    record {
      small = search rules;
      settled = (elim r as (λ b. r ≡ b → IsBetweenCalls c.enlist_record-ticket-inside.new.seat.me a.number a.seen a.has_object a.is_pending b a.is_retired) [
        | true ↦ λ e. subst (λ (x : Seated _ _ _). IsBetweenCalls x a.number a.seen a.has_object a.is_pending true a.is_retired) (sym (c.enlist_record-ticket-inside.ensures.won e))
            (subst (λ (p : Bool). IsBetweenCalls (enlisting a.seat.me.0, a.seat.me.1) a.number a.seen a.has_object p true a.is_retired) (sym waits)
            (won a.seat.me a.number a.seen a.has_object a.is_listed a.is_retired (subst (λ (p : Bool). IsBetweenCalls a.seat.me a.number a.seen a.has_object p a.is_listed a.is_retired) waits t)))
        | false ↦ λ e. subst (λ (x : Seated _ _ _). IsBetweenCalls x a.number a.seen a.has_object a.is_pending false a.is_retired) (sym (c.enlist_record-ticket-inside.ensures.lost e).0)
            (subst (λ (l : Bool). IsBetweenCalls (losing_head a.seat.me.0, a.seat.me.1) a.number a.seen a.has_object a.is_pending l a.is_retired) unlisted
            (still-between a.seat.me a.number a.seen a.seen a.has_object a.is_pending a.is_listed a.is_retired t a.seat.me.0.front a.seat.me.0.combiner (losing_head a.seat.me.0).listing t.seen_is t.accounted t.object t.hand refl t.whole t.routed))
      ]) refl;
    }
