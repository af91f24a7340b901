use Rattle.std.proofs.Common.{◌<◌}
use Rattle.waits_for.specs.Pairs.{pairs_of}
use Rattle.waits_for.specs.inner.Search.{IsFrom}
use Rattle.waits_for.proofs.choice.leads_to.Given as goal

-- The steps so far lead from u to a session.
abbrev pub invariant-loop-step : goal.invariant-loop-step
invariant-loop-step l = record {
  below : l.at < l.matrix.sessions;
  led : IsFrom (pairs_of l.matrix) l.u l.at;
}
