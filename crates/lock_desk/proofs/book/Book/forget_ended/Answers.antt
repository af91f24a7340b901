use Rattle.std.proofs.Common.{refl, ap, ◌∙◌}
use Rattle.lock_table.specs.declared.table.LockTable.{LockTable}
use Rattle.lock_holders.specs.Woken.{ended_in}
use Rattle.lock_desk.proofs.BookInvariant.{behind, read_as, relisted-kept}
use Rattle.lock_holders.proofs.EndedList.{none-in}
use Rattle.lock_desk.proofs.book.Book.forget_ended.Goals as goal

pub invariant_of-self : goal.invariant_of-self
invariant_of-self c =
    let a = c.self.inside in
    let d = c.deref_mut.result.now in
    relisted-kept (read_as d a) 0 c.clear_ended-waits_ended.new.self c.clear_ended-waits_ended.ensures.cleared (behind a d c.deref_mut.ensures.value c.self.invariant)

pub returns : goal.returns
returns c =
    let none = ap (λ (d : LockTable). ended_in d.ended) c.clear_ended-waits_ended.ensures.cleared ∙ none-in (record { places = c.deref_mut.result.now.ended.places; count = 0 }) refl in
    let is = c.self.view_is in
    λ i. record { sessions = (is i).sessions; history = (is i).history; cut = (is i).cut; bound = (is i).bound; ended = none i; deadlocks = (is i).deadlocks }
