use Rattle.std.proofs.Common.{rules, ◌≡◌, ◌<◌, true, subst, sym}
use Rattle.atomic_table.specs.Seated.{TableId}
use Rattle.publication.specs.StepKinds.{call_at}
use Rattle.publication.proofs.BetweenCalls.{answered-between}
use Rattle.publication.proofs.board.Board.answer.Goals as goal

pub invariant_of-ticket : goal.invariant_of-ticket
invariant_of-ticket g c =
    let a = c.ticket.inside in
    let t = c.ticket.invariant in
    let has : a.has_object ≡ true = search rules in
    let e = c.answer_record.ensures in record {
      small = subst (λ (id : TableId). a.number < id.slots) (sym e.ours) t.small;
      settled = answered-between a.seat.me c.answer_record.new.seat.me a.number a.seen a.has_object a.is_pending a.is_listed a.is_retired t.settled has c.from.result (call_at g.O.Sequential a.seat.me.0 c.from.result) c.args.reply e.step e.accounted;
    }
