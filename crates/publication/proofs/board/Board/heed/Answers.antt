use Rattle.std.proofs.Common.{rules, ◌≡◌, ◌||◌, ◌≤◌, ℕ, Bool, true, cond, max, get_or, sym, ap, ◌∙◌, subst, arith}
use Rattle.publication.specs.Rule.{announced}
use Rattle.publication.specs.StepKinds.{Seated, maxes, longer}
use Rattle.publication.proofs.RecordStates.{announced_both, announced_few}
use Rattle.publication.specs.inner.Tickets.{IsBetweenCalls}
use Rattle.publication.proofs.LongerFronts.{longer-length, maxes-at, maxes-wide}
use Rattle.publication.proofs.board.Board.heed.Goals as goal

pub invariant_of-ticket : goal.invariant_of-ticket
invariant_of-ticket g c = let a = c.ticket.inside in let b = c.knowledge.inside in let t = c.ticket.invariant.settled in let u = c.knowledge.invariant in
    let v = a.seat.me.0 in let w = b.seat.me.0 in let n = a.number in
    let at_most : get_or (maxes v.heard w.heard) n 0 ≤ announced v.own = subst (λ (k : ℕ). get_or (maxes v.heard w.heard) k 0 ≤ announced v.own) t.number_is c.heed_seat.ensures.learned.heard in
    let wider = maxes-wide v.heard w.heard in record {
      small = search rules;
      settled = subst (λ (x : Seated _ _ _). IsBetweenCalls x n c.max-ticket-inside.result a.has_object a.is_pending a.is_listed a.is_retired) (sym c.heed_seat.ensures.step)
          record {
            number_is = t.number_is;
            some_number = t.some_number;
            seen_is = omega (arith, longer-length v.front w.front, t.seen_is, u.seen_is, c.max-ticket-inside.ensures);
            started = t.started;
            retired = t.retired;
            pending = t.pending;
            object = t.object;
            hand = t.hand;
            listed = t.listed;
            heard_few = omega (arith, at_most, announced_few v.own, ap (λ (x : Bool). cond {A = ℕ} x 1 0) t.pending);
            heard = λ p q. omega (arith, at_most, announced_both v.own (t.pending ∙ p) (t.listed ∙ q), maxes-at v.heard w.heard n, t.heard p q);
            no_head_seen = t.no_head_seen;
            whole = t.whole;
            routed = t.routed;
            wide = omega (arith, t.wide, wider);
            all_made = ap (λ (x : Bool). x || true) t.all_made;
            accounted = c.heed_seat.ensures.learned.accounted t.accounted;
            unknown = t.unknown;
            carried = t.carried;
          };
    }

pub returns-clause-fronts : goal.returns-clause-fronts
returns-clause-fronts g c = let v = c.ticket.inside.seat.me.0 in let w = c.knowledge.inside.seat.me.0 in
    let now : c.heed_seat.new.seat.me.0.front ≡ longer v.front w.front = ap (λ (x : Seated _ _ _). x.0.front) c.heed_seat.ensures.step in
    rw (← c.ticket.view_is, ← c.knowledge.view_is, now) (c.heed_seat.ensures.learned.mine, c.heed_seat.ensures.learned.theirs)

pub returns-clause-heard : goal.returns-clause-heard
returns-clause-heard g c j = let v = c.ticket.inside.seat.me.0 in let w = c.knowledge.inside.seat.me.0 in
    let now : get_or c.heed_seat.new.seat.me.0.heard j 0 ≡ max (get_or v.heard j 0) (get_or w.heard j 0) = ap (λ (x : Seated _ _ _). get_or x.0.heard j 0) c.heed_seat.ensures.step ∙ maxes-at v.heard w.heard j in
    rw (← c.ticket.view_is, ← c.knowledge.view_is) now
