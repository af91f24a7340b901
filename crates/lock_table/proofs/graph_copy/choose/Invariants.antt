use Rattle.std.proofs.Common.{◌≡◌, ◌+◌, ℕ, List, length}
use Rattle.waits_for.specs.Pairs.{pairs_of}
use Rattle.lock_table.specs.Noting.{AreChosen}
use Rattle.lock_table.proofs.graph_copy.choose.Given as goal

-- Those that are chosen in the graph as it is now come behind those that were.
abbrev pub invariant-loop-count : goal.invariant-loop-count
invariant-loop-count l = record {
  sessions : l.rows.sessions ≡ l.initial.rows.sessions;
  ahead : (vs : List ℕ) → AreChosen (pairs_of l.rows) l.ages l.t vs → (all : List ℕ) × AreChosen (pairs_of l.initial.rows) l.ages l.t all × (length all ≡ l.count + length vs);
}
