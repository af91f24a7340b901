use Rattle.std.proofs.Common.{◌≡◌, ◌+◌, [], length}
use Rattle.publication.specs.Rule.{maker}
use Rattle.publication.specs.inner.Tickets.{AreNewSeats}
use Rattle.publication.proofs.new_board.split_all.Given as goal

abbrev pub invariant-loop-made : goal.invariant-loop-made
invariant-loop-made g l = (l.first.table_id ≡ l.shared.table_id) × (l.first.id ≡ 0) × (l.first.me ≡ (maker (l.sessions + 1) l._made, [])) × (length l.seats.items ≡ l._made) × AreNewSeats l.shared.table_id (l.sessions + 1) l.seats.items
