use Rattle.std.proofs.Common.{◌≡◌, ◌-◌, ℕ, eqb, ltb, ◌&&◌, ◌||◌}
use Rattle.waits_for.specs.Pairs.{pairs_of}
use Rattle.lock_table.proofs.graph_copy.copy_row.Given as goal

-- The edges to the positions before `from` are copied.
abbrev pub invariant-loop-u : goal.invariant-loop-u
invariant-loop-u l = record {
  sessions : l.copy.sessions ≡ l.initial.copy.sessions;
  pairs : (a b : ℕ) → pairs_of l.copy a b ≡ (pairs_of l.initial.copy a b || (eqb a l.t && (ltb b l.from && pairs_of l.rows l.t b)));
}

-- Each round goes on behind an edge.
abbrev pub decreases-loop-u : goal.decreases-loop-u
decreases-loop-u l = l.rows.sessions - l.from
