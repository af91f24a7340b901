use Rattle.std.proofs.Common.{◌≡◌, ◌∙◌, Some, subst}
use Rattle.lock_desk.specs.BookView.{BookView}
use Rattle.library_books.specs.declared.numbers.ResourceNumbers.{ResourceNumbers}
use Rattle.library_books.specs.Numbers.{IsLevel}
use Rattle.library_sessions.specs.declared.book_handle.BookHandle.{BookHandle}
use Rattle.library_sessions.specs.Tables.{shown}
use Rattle.pelgaisti_c.proofs.book.pelgaisti_raw_book_held.Goals as goal

pub returns-clause-session : goal.returns-clause-session
returns-clause-session c = λ e.
    let view : BookView = c.book.result.now in
    let was : shown c.args.book.now.behind ≡ Some view = subst (λ (h : BookHandle). shown h ≡ Some view) c.in-Some.ensures.value.1 (c.in-Some-take.ensures.some.book ∙ c.book.ensures) in
    (view, was, c.held-status.ensures.session e)

pub returns-clause-level : goal.returns-clause-level
returns-clause-level c = λ e.
    let view : BookView = c.book.result.now in
    let was : shown c.args.book.now.behind ≡ Some view = subst (λ (h : BookHandle). shown h ≡ Some view) c.in-Some.ensures.value.1 (c.in-Some-take.ensures.some.book ∙ c.book.ensures) in
    let told = c.held-status.ensures.level e in
    (view, was, told.0, subst (λ (n : ResourceNumbers). ¬ (IsLevel n.level)) c.in-Some-get.ensures.value.1 told.1)
