use Rattle.std.proofs.Common.{◌∙◌, ap}
use Rattle.lock_rules.specs.Legal.{state_of}
use Rattle.lock_rules.specs.Listing.{listing_of}
use Rattle.lock_desk.specs.BookView.{BookView}
use Rattle.lock_table.proofs.Listings.{listing-shown}
use Rattle.lock_desk.proofs.Results.{to-ok}
use Rattle.lock_desk.proofs.BookInvariant.{behind}
use Rattle.lock_desk.proofs.book.Book.locks.Goals as goal

pub returns-clause-ok : goal.returns-clause-ok
returns-clause-ok c =
    let k = behind c.self.inside c.deref.result.now c.deref.ensures c.self.invariant in
    to-ok c.locks.result _ _ c.locks.ensures.ok (λ e. e
    ∙ (listing-shown c.deref.result.now (state_of c.self.inside.history.items) k.whole k.shows
    ∙ ap (λ (t : BookView). listing_of (state_of t.history)) c.self.view_is))
