use Rattle.std.proofs.Common.{◌∙◌, ap}
use Rattle.lock_rules.specs.State.{holders}
use Rattle.lock_rules.specs.Legal.{state_of}
use Rattle.lock_desk.specs.BookView.{BookView}
use Rattle.lock_desk.proofs.Results.{to-ok}
use Rattle.lock_table.proofs.Simulation.{holders-shown}
use Rattle.lock_desk.proofs.BookInvariant.{behind}
use Rattle.lock_desk.proofs.book.Book.holders.Goals as goal

pub returns-clause-ok : goal.returns-clause-ok
returns-clause-ok c =
    let k = behind c.self.inside c.deref.result.now c.deref.ensures c.self.invariant in
    to-ok c.holders.result _ _ c.holders.ensures.ok (λ e. e
    ∙ (holders-shown c.deref.result.now (state_of c.self.inside.history.items) c.args.resource k.shows
    ∙ ap (λ (t : BookView). holders c.args.resource (state_of t.history).table.held) c.self.view_is))
