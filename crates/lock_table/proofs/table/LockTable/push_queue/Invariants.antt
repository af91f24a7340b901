use Rattle.std.proofs.Common.{◌≡◌, ◌++◌, map, take}
use Rattle.lock_table.specs.inner.Cells.{view_of}
use Rattle.lock_table.specs.Listing.{request_line}
use Rattle.lock_table.proofs.table.LockTable.push_queue.Given as goal

abbrev pub invariant-loop-index : goal.invariant-loop-index
invariant-loop-index l = l.list.items ≡ l.initial.list.items ++ map (request_line l.self l.resource (view_of l.cell).holders) (take l.index l.queue)
