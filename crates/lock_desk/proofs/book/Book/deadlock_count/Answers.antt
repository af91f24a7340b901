use Rattle.std.proofs.Common.{sym}
use Rattle.lock_desk.proofs.DeadlocksTold.{told-length}
use Rattle.lock_desk.proofs.book.Book.deadlock_count.Goals as goal

pub returns : goal.returns
returns c = sym (told-length _ _ c.deadlocks.ensures)
