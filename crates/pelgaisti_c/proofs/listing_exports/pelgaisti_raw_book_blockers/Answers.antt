use Rattle.std.proofs.Common.{◌≡◌, ◌∙◌, Some, subst}
use Rattle.lock_desk.specs.BookView.{BookView}
use Rattle.library_sessions.specs.declared.book_handle.BookHandle.{BookHandle}
use Rattle.library_sessions.specs.Tables.{shown}
use Rattle.pelgaisti_c.proofs.listing_exports.pelgaisti_raw_book_blockers.Goals as goal

pub returns-clause-session : goal.returns-clause-session
returns-clause-session c = λ e.
    let view : BookView = c.book.result.now in
    let was : shown c.args.book.now.behind ≡ Some view = subst (λ (h : BookHandle). shown h ≡ Some view) c.in-Some.ensures.value.1 (c.in-Some-take.ensures.some.book ∙ c.book.ensures) in
    (view, was, c.blockers-status.ensures.session e)
