use Rattle.std.proofs.Common.{◌≡◌, ◌∙◌, refl, sym, ap, subst, arith, vec_len, length}
use Rattle.lock_rules.specs.Step.{step}
use Rattle.lock_rules.specs.Legal.{state_of}
use Rattle.lock_desk.specs.BookView.{BookView}
use Rattle.lock_table.specs.declared.table.LockTable.{LockTable}
use Rattle.lock_desk.specs.inner.Served.{AreKept}
use Rattle.lock_desk.specs.inner.Invariant.{IsKept}
use Rattle.lock_desk.proofs.BookInvariant.{behind, kept-of, of-kept, kept-relisted, read_as, view-behind, waits_ended-alone, entry-view}
use Rattle.lock_table.specs.Changes.{with_ended_count}
use Rattle.lock_desk.proofs.book.Book.serve.Goals as goal

pub serve_recorded-requires-clause-within : goal.serve_recorded-requires-clause-within
serve_recorded-requires-clause-within c =
    let d = c.deref_mut.result.now in
    let e = c.deref_mut-2.result.now in
    let k = behind c.self.inside d c.deref_mut.ensures.value c.self.invariant in
    omega (arith, c.requires.within, ap (λ (t : BookView). t.sessions) c.self.view_is, k.lockers, ap (λ (t : LockTable). vec_len t.lockers) (c.deref_mut-2.ensures.value ∙ c.clear_ended-waits_ended.ensures.cleared))

pub serve_recorded-requires-clause-kept : goal.serve_recorded-requires-clause-kept
serve_recorded-requires-clause-kept c =
    let a = c.self.inside in
    let d = c.deref_mut.result.now in
    let k = behind a d c.deref_mut.ensures.value c.self.invariant in
    subst (λ (t : LockTable). AreKept t a.history.items) (sym (c.deref_mut-2.ensures.value ∙ c.clear_ended-waits_ended.ensures.cleared)) (kept-relisted d _ a.history.items refl (kept-of (read_as d a) k))

pub serve_recorded-requires-clause-log : goal.serve_recorded-requires-clause-log
serve_recorded-requires-clause-log c =
    let d = c.deref_mut.result.now in
    let k = behind c.self.inside d c.deref_mut.ensures.value c.self.invariant in
    λ some. k.log some ∙ sym (ap (λ (t : LockTable). vec_len t.lockers) (c.deref_mut-2.ensures.value ∙ c.clear_ended-waits_ended.ensures.cleared))

pub returns-in-Ok-clause-entry : goal.returns-in-Ok-clause-entry
returns-in-Ok-clause-entry c =
    let d = c.deref_mut.result.now in
    let a = read_as d c.self.inside in
    let k = behind c.self.inside d c.deref_mut.ensures.value c.self.invariant in
    let cleared = c.deref_mut-2.ensures.value ∙ c.clear_ended-waits_ended.ensures.cleared in
    let f = c.deref_mut-2.result.now in
    let e = c.serve_recorded.new.table in
    let done = c.in-Ok.ensures in
    let sized : length e.ended.places ≡ a.sessions
    = done.kept.ready.waits_ended ∙ (done.lockers ∙ (ap (λ (t : LockTable). vec_len t.lockers) cleared ∙ k.lockers)) in
    let st = state_of a.history.items in
    let ends = waits_ended-alone a.sessions c.args.session st (step st c.args.session c.args.call).state f.ended e.ended sized (ap (λ (t : LockTable). t.ended.count) cleared) done.ended in
    entry-view a c.args.self.now (view-behind c.self.inside d c.args.self.now c.deref_mut.ensures.value c.self.view_is) c.args.session c.args.call c.in-Ok.reply c.serve_recorded.new.history.items _ _ _ _ done.entry done.cut done.bound ends c.in-Ok.ensures.most

pub invariant_of-self-in-Err : goal.invariant_of-self-in-Err
invariant_of-self-in-Err c =
    let d = c.deref_mut.result.now in
    let k = behind c.self.inside d c.deref_mut.ensures.value c.self.invariant in
    let cleared = c.deref_mut-2.ensures.value ∙ c.clear_ended-waits_ended.ensures.cleared in
    let e = c.serve_recorded.new.table in
    let f = c.deref_mut-in-Err.result.now in
    let done = c.in-Err.ensures in
    subst (λ (t : LockTable). IsKept (record { sessions = c.self.inside.sessions; lock_table = record c.self.inside.lock_table { value = t }; history = c.serve_recorded.new.history; notes = c.serve_recorded.new.notes })) (sym (c.restore_ended.ensures ∙ ap (λ (t : LockTable). with_ended_count c.clear_ended-waits_ended.result t) c.deref_mut-in-Err.ensures.value))
    (of-kept _ k.some k.few (kept-relisted e _ c.serve_recorded.new.history.items refl done.kept) (done.lockers ∙ (ap (λ (t : LockTable). vec_len t.lockers) cleared ∙ k.lockers)) done.log done.told done.calls done.waits)
