use Rattle.std.proofs.Common.{sym, subst}
use Rattle.lock_desk.specs.BookView.{BookView}
use Rattle.lock_desk.specs.Deadlocks.{AreDeadlocksTold, deadlocks_in, newest}
use Rattle.lock_desk.proofs.book.Book.deadlocks.Goals as goal

pub returns : goal.returns
returns c =
    let a = c.self.inside in
    let told = subst (AreDeadlocksTold (newest a.notes.log.most (deadlocks_in a.history.items))) (sym c.told.ensures) c.self.invariant.told in
    subst (λ (t : BookView). AreDeadlocksTold (newest t.deadlocks (deadlocks_in t.history)) c.told.result.now) c.self.view_is told
