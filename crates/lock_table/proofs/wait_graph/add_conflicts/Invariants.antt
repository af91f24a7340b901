use Rattle.std.proofs.Common.{◌≡◌, ℕ, ◌+◌, ◌||◌, ◌&&◌, eqb, take}
use Rattle.waits_for.specs.Pairs.{pairs_of}
use Rattle.lock_table.specs.inner.Blocking.{has_conflicting}
use Rattle.lock_table.proofs.wait_graph.add_conflicts.Given as goal

abbrev pub invariant-loop-request : goal.invariant-loop-request
invariant-loop-request l = record {
  sessions : l.rows.sessions ≡ l.initial.rows.sessions;
  pairs : (a b : ℕ) → pairs_of l.rows a b ≡ (pairs_of l.initial.rows a b || (eqb (b + 1) l.holder.session && has_conflicting (a + 1) l.holder.mode (take l.request-index l.queue)));
}
