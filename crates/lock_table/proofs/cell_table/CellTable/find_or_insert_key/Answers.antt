use Rattle.lock_table.proofs.Places.{placed}
use Rattle.lock_table.proofs.cell_table.CellTable.find_or_insert_key.Goals as goal

pub returns-clause-place : goal.returns-clause-place
returns-clause-place c = placed c.self.invariant c.self.view_is c.args.resource c.find_or_insert.result c.find_or_insert.ensures.place
