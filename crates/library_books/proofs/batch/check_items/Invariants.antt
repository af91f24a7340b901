use Rattle.std.proofs.Common.{List, take}
use Rattle.lock_desk.specs.Batches.{Item as ItemValue}
use Rattle.library_books.specs.Batches.{AreItems}
use Rattle.library_books.proofs.batch.check_items.Given as goal

abbrev pub invariant-loop-k : goal.invariant-loop-k
invariant-loop-k l = (items : List ItemValue) × AreItems l.book (take l.k l.numbers) items
