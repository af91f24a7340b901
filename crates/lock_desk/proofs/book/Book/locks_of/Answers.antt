use Rattle.std.proofs.Common.{take, ◌∙◌, ap}
use Rattle.lock_rules.specs.Legal.{state_of}
use Rattle.lock_rules.proofs.Steps.{state-lawful}
use Rattle.lock_desk.specs.BookView.{BookView}
use Rattle.lock_desk.specs.Pages.{locks_of}
use Rattle.lock_desk.proofs.Pages.{page-shown}
use Rattle.lock_desk.proofs.Results.{to-ok}
use Rattle.lock_desk.proofs.BookInvariant.{behind}
use Rattle.lock_desk.proofs.book.Book.locks_of.Goals as goal

pub returns-clause-ok : goal.returns-clause-ok
returns-clause-ok c =
    let k = behind c.self.inside c.deref.result.now c.deref.ensures c.self.invariant in
    let es = c.self.inside.history.items in
    to-ok c.locks_of.result _ _ c.locks_of.ensures.ok (λ e. e
    ∙ (page-shown (state_of es) c.args.session c.deref.result.now k.whole k.shows c.args.after c.args.most (state-lawful es).sound.order
    ∙ ap (λ (t : BookView). take c.args.most (locks_of (state_of t.history) c.args.session c.args.after)) c.self.view_is))
