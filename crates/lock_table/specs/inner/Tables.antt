-- The invariant of the table of cells.
use Rattle.std.specs.Prelude.{◌≡◌, ℕ, ◌<◌, ◌≤◌, List, length, zip, slice_index_or}
use Rattle.lock_table.specs.declared.cells.Cell.{Cell}
use Rattle.lock_table.specs.inner.Cells.{Table, no_view, view_of}
use Rattle.lock_table.specs.declared.cell_table.CellTable.TheInside.{Inside}

-- what contracts see of the table: each resource in use with the cell at its index
abbrev pub table_of : Inside → Table
table_of a = record { entries = zip a.keys.used a.cells.items }

-- the cells from index `n` on are idle
abbrev pub AreIdleFrom : ℕ → List Cell → Type 0
AreIdleFrom n xs = (i : ℕ) (d : Cell) → n ≤ i → i < length xs → view_of (slice_index_or xs i d) ≡ no_view

-- there is a cell for each resource in use, and the cells behind these are idle
pub record IsKeptTable (a : Inside) : Type 0 where
  pub long : length a.keys.used ≤ length a.cells.items
  pub idle : AreIdleFrom (length a.keys.used) a.cells.items
