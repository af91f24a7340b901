use Rattle.std.proofs.Common.{◌≡◌, ◌≤◌, ◌+◌, length, vec_len, vec_capacity}
use Rattle.publication.specs.StepKinds.{IsRoute}
use Rattle.combining.specs.inner.Passes.{AreOpened, KeepsCalls, HasVisitedOpened, IsSameSession, ahead, IsNext, HasMet}
use Rattle.combining.specs.inner.BoundedPasses.{IsWithin}
use Rattle.combining.proofs.rounds.open_walked.Given as goal

abbrev pub invariant-loop-next : goal.invariant-loop-next
invariant-loop-next g l = record {
  same : IsSameSession l.initial.session l.session × (l.session.front ≡ l.initial.session.front);
  kept : l.session.route ≡ l.initial.session.route;
  route : IsRoute (l.board.sessions + 1) l.session.route;
  next : IsNext l.next l.session.route;
  row : AreOpened l.board.sessions l.session.opened l.load.row.items;
  room : (l.board.sessions ≤ vec_capacity l.load.row) × (l.opening.going_first ≤ vec_len l.load.row);
  calls : KeepsCalls l.initial.session l.session;
  visited : HasVisitedOpened l.session;
  within : IsWithin g.T.Listener.weight l.bound (g.O.Sequential.history l.initial.load.object) l.load.row l.opening.weight;
  load : l.load ≡ record l.initial.load { row = l.load.row };
  met : HasMet l.next l.session;
}

abbrev pub decreases-loop-next : goal.decreases-loop-next
decreases-loop-next g l = length (ahead l.next l.session.route)
