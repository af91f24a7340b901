use Rattle.std.proofs.Common.{◌≡◌, ℕ, ◌+◌, ◌&&◌, not, take}
use Rattle.waits_for.specs.Pairs.{pairs_of}
use Rattle.lock_holders.specs.SessionModes.{has_session}
use Rattle.lock_table.specs.inner.Blocking.{has_fitting_beside}
use Rattle.lock_table.proofs.wait_graph.follow_grants.Given as goal

abbrev pub invariant-loop-request : goal.invariant-loop-request
invariant-loop-request l = record {
  sessions : l.waits.rows.sessions ≡ l.initial.waits.rows.sessions;
  pairs : (a b : ℕ) → pairs_of l.waits.rows a b ≡ ((pairs_of l.initial.waits.rows a b && not (has_session (a + 1) (take l.request-index l.granted))) && not (has_fitting_beside (a + 1) (b + 1) (take l.request-index l.granted) l.behind));
  numbers : l.waits.numbers ≡ l.initial.waits.numbers;
}
