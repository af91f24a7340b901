use Rattle.std.proofs.Common.{rules, ◌≡◌, ◌+◌, ◌++◌, ◌∷◌, [], List, length, get_or, set, take, sym, ap, ◌∙◌, subst}
use Rattle.std.proofs.lemmas.List.{get_or_default}
use Rattle.lock_rules.specs.Entries.{Entry}
use Rattle.lock_rules.specs.Step.{step}
use Rattle.lock_rules.specs.Legal.{state_of}
use Rattle.lock_desk.specs.BookView.{BookView}
use Rattle.lock_desk.specs.Batches.{Item}
use Rattle.lock_holders.specs.Woken.{ended_in}
use Rattle.lock_desk.specs.inner.Served.{AreServed}
use Rattle.lock_desk.proofs.Batches.{entry_of, with_reply, ended_also, waits_ended-also, served-next}
use Rattle.lock_desk.proofs.BookInvariant.{behind, read_as, view-behind}
use Rattle.lock_desk.proofs.book.Book.serve_item.Goals as goal

pub returns-clause-served : goal.returns-clause-served
returns-clause-served c = λ batch start s.
    let d = c.deref_mut.result.now in
    let a = read_as d c.self.inside in
    let kept = behind c.self.inside d c.deref_mut.ensures.value c.self.invariant in
    let items = c.args.items.now in
    let k = c.args.at in
    let b = c.args.self.now in
    let asked = c.index-items-at.result in
    let reply = c.in-Ok.reply in
    let done = c.in-Ok.ensures in
    let e = c.serve_recorded.new.table in
    let is = view-behind c.self.inside d b c.deref_mut.ensures.value c.self.view_is in
    let h = ap (λ (t : BookView). t.history) is in
    let n : length d.ended.places ≡ b.sessions = kept.ready.waits_ended ∙ (kept.lockers ∙ ap (λ (t : BookView). t.sessions) is) in
    let m : length e.ended.places ≡ b.sessions = done.kept.ready.waits_ended ∙ (done.lockers ∙ (kept.lockers ∙ ap (λ (t : BookView). t.sessions) is)) in
    let before : ended_in d.ended ≡ b.ended = ap (λ (t : BookView). t.ended) is in
    let at : asked ≡ get_or items k asked = search rules in
    let same = at ∙ get_or_default items k asked c.index-items-at-2.result c.requires.some in
    let ends : ended_in e.ended ≡ ended_also b.sessions (state_of start) (take k batch) (state_of a.history.items) asked
    = waits_ended-also b.sessions (state_of start) (take k batch) (state_of a.history.items) asked d.ended e.ended n m (before ∙ s.waits) done.ended in
    let ends_now = ends ∙ ap (λ (es : List Entry). ended_also b.sessions (state_of start) (take k batch) (state_of es) asked) h in
    let next = served-next b.sessions k batch start b.ended (ended_in e.ended) b.history items asked reply s c.requires.some at (done.reply ∙ ap (λ (es : List Entry). (step (state_of es) asked.session asked.call).reply) h) ends_now in
    subst (λ (es : List Entry). AreServed b.sessions (k + 1) batch start (ended_in e.ended) es (set items k (with_reply (get_or items k c.index-items-at-2.result) reply))) (sym (done.entry ∙ ap (λ (es : List Entry). es ++ entry_of asked reply ∷ []) h))
    (subst (λ (is : List Item). AreServed b.sessions (k + 1) batch start (ended_in e.ended) (b.history ++ entry_of asked reply ∷ []) is) (ap (λ (i : Item). set items k (with_reply i reply)) same) next)
