-- The waits-for graph of a lock table is current.
use Rattle.std.specs.Prelude.{◌≡◌, length, vec_len}
use Rattle.lock_table.specs.declared.table.LockTable.{LockTable}
use Rattle.lock_table.specs.inner.Lockers.{standings_of}
use Rattle.lock_table.specs.inner.Blocking.{IsSizedFor, IsCurrent}

-- there is a locker for each session of the waits-for graph and of the list of ended waits, and the graph and the transaction
-- numbers are those that cells and lockers determine
pub record IsReadyTable (d : LockTable) : Type 0 where
  pub long : d.waits.rows.sessions ≡ vec_len d.lockers
  pub ready : IsSizedFor d.waits.rows.sessions d.waits
  pub waits_ended : length d.ended.places ≡ vec_len d.lockers
  pub filled : IsCurrent d.cells.entries (standings_of d.lockers.items) d.waits
