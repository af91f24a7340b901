use Rattle.std.proofs.Common.{◌≡◌, ◌+◌, length}
use Rattle.publication.specs.Boards.{IsNumber}
use Rattle.publication.specs.List.{IsOn, first_of, behind}
use Rattle.publication.specs.StepKinds.{IsRoute}
use Rattle.combining.specs.inner.Ages.{IsCleaned}
use Rattle.combining.proofs.clean_up.unlink_unused.Given as goal

abbrev pub invariant-loop-next : goal.invariant-loop-next
invariant-loop-next g l = record {
  same : l.session ≡ record l.initial.session { route = l.session.route };
  route : IsRoute (l.board.sessions + 1) l.session.route;
  before : IsNumber l.board l.before × IsOn l.before l.session.route;
  next : l.next ≡ first_of (behind l.before l.session.route);
  cleaned : IsCleaned l.ages l.passes l.initial.session.route l.session.route;
}

abbrev pub decreases-loop-next : goal.decreases-loop-next
decreases-loop-next g l = length (behind l.before l.session.route)
