use Rattle.std.proofs.Common.{◌≡◌, ◌≤◌, length}
use Rattle.library_books.specs.Calls.{written}
use Rattle.library_books.proofs.arrays.write_all.Given as goal

abbrev pub invariant-loop-k : goal.invariant-loop-k
invariant-loop-k g l = (l.places ≡ written g.N.NumbersOf.numbers l.k l.items l.initial.places) × (l.count ≤ length l.items) × (l.count ≤ length l.initial.places)
