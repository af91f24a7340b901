use Rattle.std.proofs.Common.{◌≡◌, ◌+◌, ◌++◌, [], length}
use Rattle.publication.specs.Rule.{maker}
use Rattle.publication.specs.Boards.{new_tickets}
use Rattle.publication.specs.inner.Tickets.{AreNewSeats}
use Rattle.publication.proofs.board.enrol_all.Given as goal

abbrev pub invariant-loop-seat : goal.invariant-loop-seat
invariant-loop-seat g l = (l.first.table_id ≡ l.shared.table_id) × (l.first.me ≡ (maker (l.sessions + 1) l.sessions, [])) × (l.number ≡ length l.yielded) × (l.tickets.items ≡ new_tickets l.shared.table_id l.sessions l.number)
    × AreNewSeats l.shared.table_id (l.sessions + 1) (l.yielded ++ l.seat-iterator.rest.items)
