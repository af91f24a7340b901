use Rattle.std.proofs.Common.{◌∙◌, List, sym, subst}
use Rattle.lock_rules.specs.Entries.{Entry}
use Rattle.lock_rules.specs.Legal.{state_of}
use Rattle.lock_desk.specs.inner.Counting.{AreCallsCounted, AreWaitsCounted}
use Rattle.lock_desk.specs.Deadlocks.{AreDeadlocksTold, deadlocks_in, newest}
use Rattle.lock_desk.proofs.BookInvariant.{behind, kept-of, kept-same, of-kept, read_as}
use Rattle.lock_table.proofs.Simulation.{same-shown}
use Rattle.lock_desk.proofs.book.Book.shrink.Goals as goal

pub invariant_of-self : goal.invariant_of-self
invariant_of-self c =
    let a = c.self.inside in
    let d = c.deref_mut.result.now in
    let k = behind a d c.deref_mut.ensures.value c.self.invariant in
    let kept = c.shrink.ensures.kept in
    of-kept _ k.some k.few
    (kept-same d c.shrink.new.self a.history.items c.shrink-2.new.self.items c.shrink-2.ensures.items (kept-of (read_as d a) k)
    (same-shown d c.shrink.new.self (state_of a.history.items) c.shrink.ensures.same k.shows) kept.whole kept.ready kept.lockers)
    (kept.lockers ∙ k.lockers) (λ some. k.log some ∙ sym kept.lockers)
    (subst (λ (es : List Entry). AreDeadlocksTold (newest a.notes.log.most (deadlocks_in es)) a.notes.log.told) (sym c.shrink-2.ensures.items) k.told)
    (subst (λ (es : List Entry). AreCallsCounted es a.notes.counts) (sym c.shrink-2.ensures.items) k.calls)
    (subst (λ (es : List Entry). AreWaitsCounted es a.notes.log.counts) (sym c.shrink-2.ensures.items) k.waits)
