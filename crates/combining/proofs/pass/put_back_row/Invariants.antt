use Rattle.std.proofs.Common.{◌≡◌, ◌+◌, length, drop}
use Rattle.combining.specs.inner.Passes.{AreOpened}
use Rattle.combining.proofs.pass.put_back_row.Given as goal

abbrev pub invariant-loop-item : goal.invariant-loop-item
invariant-loop-item g l = record {
  same : l.session ≡ record l.initial.session { opened = l.session.opened; put_backs = l.initial.session.put_backs + l.item-index };
  wide : length l.session.opened ≡ length l.initial.session.opened;
  row : AreOpened l.board.sessions l.session.opened (drop l.item-index l.row);
}
