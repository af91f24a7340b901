use Rattle.std.proofs.Common.{◌≡◌, ◌∙◌, length}
use Rattle.lock_desk.proofs.BookInvariant.{behind, beside-view, read_as, view-behind}
use Rattle.lock_desk.proofs.book.Book.serve_on.Goals as goal

pub returns-clause-entry : goal.returns-clause-entry
returns-clause-entry c =
    let d = c.deref_mut.result.now in
    let a = read_as d c.self.inside in
    let e = c.serve_recorded.new.table in
    let done = c.in_ok-reply.ensures in
    let k = behind c.self.inside d c.deref_mut.ensures.value c.self.invariant in
    let before : length d.ended.places ≡ a.sessions = k.ready.waits_ended ∙ k.lockers in
    let after : length e.ended.places ≡ a.sessions = done.kept.ready.waits_ended ∙ (done.lockers ∙ k.lockers) in
    beside-view a c.args.self.now (view-behind c.self.inside d c.args.self.now c.deref_mut.ensures.value c.self.view_is) c.args.session c.args.call c.in_ok-reply.reply c.serve_recorded.new.history.items _ _ e.ended _ done.entry done.cut done.bound before after done.ended done.most
