use Rattle.std.proofs.Common.{◌≡◌, ◌<◌, ℕ}
use Rattle.waits_for.specs.Pairs.{pairs_of}
use Rattle.lock_table.proofs.graph_copy.copy_rows.Given as goal

-- The rows of the first positions are copied.
abbrev pub invariant-loop-t : goal.invariant-loop-t
invariant-loop-t l = record {
  sessions : l.copy.sessions ≡ l.initial.copy.sessions;
  pairs : (a b : ℕ) → a < l.t → pairs_of l.copy a b ≡ pairs_of l.rows a b;
}
