use Rattle.lock_table.proofs.Places.{placed}
use Rattle.lock_table.proofs.cell_table.CellTable.place_of.Goals as goal

pub returns : goal.returns
returns c = placed c.self.invariant c.self.view_is c.args.resource c.place_of.result c.place_of.ensures
