use Rattle.std.proofs.Common.{◌<◌, ◌+◌, length, take}
use Rattle.replay_commands.specs.declared.pieces.TheConstants.{PIECE_ENTRIES}
use Rattle.replay_commands.proofs.UnderWay.{IsUnderWay}
use Rattle.replay_commands.proofs.replaying_in_pieces.serve_rows.Given as goal

-- the rows so far were served, the text of their history was written up to the cut, and fewer entries are kept than a piece has
abbrev pub invariant-loop-row : goal.invariant-loop-row
invariant-loop-row g l = record {
  way : IsUnderWay l.fn.book.sessions (take l.row-index l.rows) l.book (g.W.Write.contents l.initial.output) (g.W.Write.contents l.output);
  few : length l.book.history < l.book.cut + PIECE_ENTRIES;
}
