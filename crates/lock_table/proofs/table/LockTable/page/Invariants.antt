use Rattle.std.proofs.Common.{◌≡◌, take}
use Rattle.std.specs.List.{flat_map}
use Rattle.lock_table.specs.LockPages.{lock_lines_at}
use Rattle.lock_table.proofs.table.LockTable.page.Given as goal

abbrev pub invariant-loop-index : goal.invariant-loop-index
invariant-loop-index l = l.list.items ≡ flat_map (lock_lines_at l.self l.session) (take l.index l.resources.items)
