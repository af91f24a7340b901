use Rattle.std.proofs.Common.{◌≡◌, ◌++◌, map}
use Rattle.publication.specs.inner.Closing.{handed_by}
use Rattle.publication.proofs.board.Board.join_tickets.Given as goal

abbrev pub invariant-loop-ticket : goal.invariant-loop-ticket
invariant-loop-ticket g l = (l.closing.table_id ≡ l.initial.closing.table_id) × (l.closing.me.0.number ≡ 0) × (l.closing.me.0.others.handed ≡ l.initial.closing.me.0.others.handed ++ map handed_by l.yielded)
