use Rattle.std.proofs.Common.{refl}
use Rattle.lock_desk.proofs.Batches.{served-start}
use Rattle.lock_desk.proofs.book.Book.serve_items.Goals as goal

pub loop-served-init : goal.loop-served-init
loop-served-init c = record {
  sessions = refl;
  cut = refl;
  bound = refl;
  deadlocks = refl;
  within = c.requires.within;
  long = refl;
  served = served-start c.args.self.now c.args.items.now c.requires.none;
}
