use Rattle.std.proofs.Common.{length, ◌∙◌, ap, sym, subst}
use Rattle.std.specs.List.{All}
use Rattle.sequential.specs.Histories.{IsEntryWithin}
use Rattle.lock_rules.specs.Legal.{state_of}
use Rattle.lock_rules.proofs.Steps.{state-lawful}
use Rattle.lock_rules.proofs.CountEnds.{requests-within}
use Rattle.lock_desk.specs.BookView.{BookView}
use Rattle.lock_desk.specs.Counts.{counts_of}
use Rattle.lock_desk.specs.inner.Counting.{AreWaitsCounted}
use Rattle.lock_desk.proofs.WaitersCounted.{waiting-counted}
use Rattle.lock_desk.proofs.BookInvariant.{behind}
use Rattle.lock_desk.proofs.book.Book.counts.Goals as goal

pub returns : goal.returns
returns c =
    let a = c.self.inside in
    let k = behind c.self.inside c.deref.result.now c.deref.ensures c.self.invariant in
    let h = a.history.items in
    let waiting =
    c.waiting-waiting.ensures ∙ waiting-counted c.deref.result.now (state_of h) k.whole (state-lawful h).sound k.shows
    (requests-within (length c.deref.result.now.lockers.items) h (subst (λ n. All (IsEntryWithin n) h) (sym k.lockers ∙ c.deref.result.now.lockers.ok.0) k.within)) in
    c.counts_told.ensures h k.legal k.calls (subst (AreWaitsCounted h) (sym c.counts-ended.ensures) k.waits) waiting c.count-served.ensures.count
    ∙ ap (λ (t : BookView). counts_of t.history) c.self.view_is
