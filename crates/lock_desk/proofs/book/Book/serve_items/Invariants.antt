use Rattle.std.proofs.Common.{◌≡◌, length}
use Rattle.std.specs.List.{All}
use Rattle.sequential.specs.Batches.{IsItemWithin}
use Rattle.lock_desk.specs.inner.Served.{AreServed}
use Rattle.lock_desk.proofs.book.Book.serve_items.Given as goal

abbrev pub invariant-loop-served : goal.invariant-loop-served
invariant-loop-served l = record {
  sessions : l.self.sessions ≡ l.initial.self.sessions;
  cut : l.self.cut ≡ l.initial.self.cut;
  bound : l.self.bound ≡ l.initial.self.bound;
  deadlocks : l.self.deadlocks ≡ l.initial.self.deadlocks;
  within : All (IsItemWithin l.self.sessions) l.items;
  long : length l.items ≡ length l.initial.items;
  served : AreServed l.initial.self.sessions l.served l.initial.items l.initial.self.history l.self.ended l.self.history l.items;
}
