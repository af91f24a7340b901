use Rattle.lock_table.proofs.Places.{placed}
use Rattle.lock_table.proofs.cell_table.CellTable.place_near.Goals as goal

pub returns : goal.returns
returns c = placed c.self.invariant c.self.view_is c.args.resource c.place_near.result c.place_near.ensures
