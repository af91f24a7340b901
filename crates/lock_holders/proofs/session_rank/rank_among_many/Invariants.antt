use Rattle.std.proofs.Common.{◌≤◌, ◌-◌, length}
use Rattle.lock_holders.specs.inner.Columns.{AreBelow, AreNotBelow}
use Rattle.lock_holders.proofs.session_rank.rank_among_many.Given as goal

abbrev pub invariant-loop-low : goal.invariant-loop-low
invariant-loop-low l = record {
  order : l.low ≤ l.high;
  within : l.high ≤ length l.sessions;
  below : AreBelow l.session l.low l.sessions;
  others : AreNotBelow l.session l.high l.sessions;
}

abbrev pub decreases-loop-low : goal.decreases-loop-low
decreases-loop-low l = l.high - l.low
