use Rattle.std.proofs.Common.{◌≡◌, ◌≤◌, length}
use Rattle.library_books.specs.Calls.{written}
use Rattle.library_books.specs.inner.Items.{numbers_of_item}
use Rattle.library_books.proofs.batch.write_items.Given as goal

abbrev pub invariant-loop-k : goal.invariant-loop-k
invariant-loop-k l = (l.places ≡ written numbers_of_item l.k l.items l.initial.places) × (l.count ≤ length l.items) × (l.count ≤ length l.initial.places)
