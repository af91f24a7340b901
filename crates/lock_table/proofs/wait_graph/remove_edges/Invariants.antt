use Rattle.std.proofs.Common.{◌≡◌, ℕ, ◌+◌, ◌&&◌, not, eqb, take}
use Rattle.waits_for.specs.Pairs.{pairs_of}
use Rattle.lock_table.specs.inner.Blocking.{has_fitting}
use Rattle.lock_table.proofs.wait_graph.remove_edges.Given as goal

abbrev pub invariant-loop-request : goal.invariant-loop-request
invariant-loop-request l = record {
  sessions : l.rows.sessions ≡ l.initial.rows.sessions;
  pairs : (a b : ℕ) → pairs_of l.rows a b ≡ (pairs_of l.initial.rows a b && not (eqb (b + 1) l.session && has_fitting (a + 1) l.held (take l.request-index l.queue)));
}
