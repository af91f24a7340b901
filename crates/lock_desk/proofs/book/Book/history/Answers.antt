use Rattle.std.proofs.Common.{◌∙◌, ap}
use Rattle.lock_desk.specs.BookView.{kept_by}
use Rattle.lock_desk.proofs.book.Book.history.Goals as goal

pub returns-clause-lawful : goal.returns-clause-lawful
returns-clause-lawful c = λ front rest e. c.states_are_lawful.ensures front

pub returns-clause-grants : goal.returns-clause-grants
returns-clause-grants c = λ front later rest e. c.grants_stand.ensures front later

pub returns-clause-history : goal.returns-clause-history
returns-clause-history c = c.kept.ensures.kept ∙ ap kept_by c.self.view_is
