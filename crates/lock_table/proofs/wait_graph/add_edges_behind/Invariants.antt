use Rattle.std.proofs.Common.{◌≡◌, ℕ, ◌+◌, ◌||◌, ◌&&◌, eqb, take}
use Rattle.waits_for.specs.Pairs.{pairs_of}
use Rattle.lock_holders.specs.SessionModes.{has_session}
use Rattle.lock_table.proofs.wait_graph.add_edges_behind.Given as goal

abbrev pub invariant-loop-request : goal.invariant-loop-request
invariant-loop-request l = record {
  sessions : l.rows.sessions ≡ l.initial.rows.sessions;
  pairs : (a b : ℕ) → pairs_of l.rows a b ≡ (pairs_of l.initial.rows a b || (eqb (b + 1) l.session && has_session (a + 1) (take l.request-index l.behind)));
}
