use Rattle.std.proofs.Common.{sym, subst}
use Rattle.lock_desk.specs.Deadlocks.{AreDeadlocksTold}
use Rattle.lock_desk.proofs.DeadlocksTold.{told-newest}
use Rattle.lock_desk.proofs.book.Book.newest_deadlocks.Goals as goal

pub returns : goal.returns
returns c = subst (AreDeadlocksTold _) (sym c.newest_of.ensures) (told-newest c.args.most _ _ c.deadlocks.ensures)
