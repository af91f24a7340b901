use Rattle.std.proofs.Common.{◌≡◌, ◌++◌, map, take}
use Rattle.lock_rules.specs.declared.listing.ClaimKind.TheVariants.{Held}
use Rattle.lock_table.specs.inner.Cells.{view_of}
use Rattle.lock_table.specs.Listing.{line}
use Rattle.lock_table.proofs.table.LockTable.push_holders.Given as goal

abbrev pub invariant-loop-index : goal.invariant-loop-index
invariant-loop-index l = l.list.items ≡ l.initial.list.items ++ map (line l.self l.resource Held) (take l.index (view_of l.cell).holders)
