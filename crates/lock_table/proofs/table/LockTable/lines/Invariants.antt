use Rattle.std.proofs.Common.{◌≡◌, take}
use Rattle.std.specs.List.{flat_map}
use Rattle.lock_table.specs.Listing.{lines_at}
use Rattle.lock_table.proofs.table.LockTable.lines.Given as goal

abbrev pub invariant-loop-index : goal.invariant-loop-index
invariant-loop-index l = l.list.items ≡ flat_map (lines_at l.self) (take l.index l.resources.items)
