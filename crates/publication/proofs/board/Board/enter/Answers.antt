use Rattle.std.proofs.Common.{rules, ◌≡◌, ◌<◌, Option, None, is_some, true, false, ap, subst, sym, ◌∙◌}
use Rattle.atomic_table.specs.Seated.{TableId}
use Rattle.publication.proofs.BetweenCalls.{entered-between}
use Rattle.publication.proofs.board.Board.enter.Goals as goal

pub invariant_of-ticket : goal.invariant_of-ticket
invariant_of-ticket g c =
    let a = c.ticket.inside in
    let t = c.ticket.invariant in
    let e = c.enter_call.ensures in
    let has : a.has_object ≡ true = search rules in
    let none : a.seat.me.0.own.pending ≡ None = search rules in
    let idle : a.is_pending ≡ false = sym t.settled.pending ∙ ap (λ (o : Option _). is_some o) none in record {
      small = subst (λ (id : TableId). a.number < id.slots) (sym e.ours) t.small;
      settled = entered-between a.seat.me c.enter_call.new.seat.me a.number a.seen a.has_object a.is_pending a.is_listed a.is_retired t.settled has c.args.call c.args.reply idle e.step e.calls;
    }
