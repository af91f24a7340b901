use Rattle.std.proofs.Common.{◌<◌}
use Rattle.waits_for.specs.Pairs.{pairs_of}
use Rattle.waits_for.specs.inner.Search.{IsTo}
use Rattle.waits_for.proofs.choice.is_led_to.Given as goal

-- The steps so far lead from a session to u.
abbrev pub invariant-loop-step : goal.invariant-loop-step
invariant-loop-step l = record {
  below : l.at < l.matrix.sessions;
  by_below : l.by < l.matrix.sessions;
  leads : IsTo (pairs_of l.matrix) l.u l.at;
}
