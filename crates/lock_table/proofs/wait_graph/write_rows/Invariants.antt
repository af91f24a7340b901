use Rattle.std.proofs.Common.{◌≡◌, ℕ, ◌+◌, ◌&&◌, ◌||◌, take}
use Rattle.waits_for.specs.Pairs.{pairs_of}
use Rattle.lock_holders.specs.SessionModes.{has_session}
use Rattle.lock_table.specs.inner.Cells.{view_of}
use Rattle.lock_table.specs.inner.Blocking.{cell_blocks}
use Rattle.lock_table.proofs.wait_graph.write_rows.Given as goal

abbrev pub invariant-loop-index : goal.invariant-loop-index
invariant-loop-index l = record {
  sessions : l.waits.rows.sessions ≡ l.initial.waits.rows.sessions;
  pairs : (a b : ℕ) → pairs_of l.waits.rows a b ≡ (pairs_of l.initial.waits.rows a b || (has_session (a + 1) (take l.index (view_of l.cell).waiting) && cell_blocks (a + 1) (b + 1) l.cell));
  numbers : l.waits.numbers ≡ l.initial.waits.numbers;
}
