use Rattle.std.proofs.Common.{◌∙◌, ap}
use Rattle.lock_rules.specs.Legal.{state_of}
use Rattle.lock_rules.specs.Listing.{waiting_line}
use Rattle.lock_rules.proofs.Steps.{state-lawful}
use Rattle.lock_desk.specs.BookView.{BookView}
use Rattle.lock_table.proofs.Listings.{request-shown}
use Rattle.lock_desk.proofs.BookInvariant.{behind}
use Rattle.lock_desk.proofs.book.Book.request.Goals as goal

pub returns : goal.returns
returns c =
    let k = behind c.self.inside c.deref.result.now c.deref.ensures c.self.invariant in
    let es = c.self.inside.history.items in
    c.waiting_request.ensures
    ∙ (request-shown c.deref.result.now (state_of es) k.whole k.shows c.args.session (state-lawful es).sound
    ∙ ap (λ (t : BookView). waiting_line (state_of t.history) c.args.session) c.self.view_is)
