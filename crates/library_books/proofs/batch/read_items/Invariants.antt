use Rattle.std.proofs.Common.{take}
use Rattle.library_books.specs.Batches.{AreItems}
use Rattle.library_books.proofs.batch.read_items.Given as goal

abbrev pub invariant-loop-k : goal.invariant-loop-k
invariant-loop-k l = AreItems l.book (take l.k l.numbers) l.items.items
