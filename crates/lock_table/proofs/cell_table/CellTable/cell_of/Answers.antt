use Rattle.std.proofs.Common.{ap, arith}
use Rattle.lock_table.specs.inner.Cells.{Table}
use Rattle.lock_table.proofs.Places.{cell-within, there}
use Rattle.lock_table.proofs.cell_table.CellTable.cell_of.Goals as goal

pub index-requires : goal.index-requires
index-requires c =
    omega (arith, cell-within c.self.invariant c.self.view_is c.args.resource c.in-Some.is c.place_of.ensures, c.self.inside.cells.ok.0)

pub returns-in-Some : goal.returns-in-Some
returns-in-Some c =
    there c.self.invariant c.self.view_is c.args.resource c.in-Some.is c.place_of.ensures c.index.ensures
