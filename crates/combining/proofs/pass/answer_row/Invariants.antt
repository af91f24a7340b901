use Rattle.std.proofs.Common.{◌<◌, ◌^◌, length, take, drop}
use mathlib.Core.List.{IsPrefix}
use Rattle.combining.specs.inner.Passes.{AreOpened, KeepsCalls, HasAnswered, IsObjectInHand}
use Rattle.combining.proofs.pass.answer_row.Given as goal

abbrev pub invariant-loop-item : goal.invariant-loop-item
invariant-loop-item g l = record {
  same : HasAnswered l.initial.session l.session l.item-index;
  short : length (g.O.Sequential.history l.object) < 2 ^ 64;
  object : IsObjectInHand g.O.Sequential l.board.sessions l.object l.session (drop l.item-index (take l.served l.row));
  row : AreOpened l.board.sessions l.session.opened (drop l.item-index l.row);
  longer : IsPrefix l.initial.session.front l.session.front;
  calls : KeepsCalls l.initial.session l.session;
}
