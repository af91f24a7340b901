use Rattle.std.proofs.Common.{rules, ◌≡◌, true}
use Rattle.publication.proofs.BetweenCalls.{unlinked-between}
use Rattle.publication.proofs.board.Board.unlink.Goals as goal

pub invariant_of-ticket : goal.invariant_of-ticket
invariant_of-ticket g c =
    let a = c.ticket.inside in
    let has : a.has_object ≡ true = search rules in record {
      small = search rules;
      settled = unlinked-between a.seat.me c.unlink_record.new.seat.me a.number a.seen a.has_object a.is_pending a.is_listed a.is_retired c.ticket.invariant.settled has c.from.result c.unlink_record.result c.unlink_record.ensures.out c.unlink_record.ensures.kept;
    }
