use Rattle.std.proofs.Common.{◌∙◌, ap}
use Rattle.lock_rules.specs.State.{held_mode}
use Rattle.lock_rules.specs.Legal.{state_of}
use Rattle.lock_desk.specs.BookView.{BookView}
use Rattle.lock_table.proofs.Simulation.{mode-shown}
use Rattle.lock_desk.proofs.BookInvariant.{behind}
use Rattle.lock_desk.proofs.book.Book.held.Goals as goal

pub returns : goal.returns
returns c =
    let k = behind c.self.inside c.deref.result.now c.deref.ensures c.self.invariant in
    c.held.ensures
    ∙ (mode-shown c.deref.result.now (state_of c.self.inside.history.items) c.args.session c.args.resource k.shows
    ∙ ap (λ (t : BookView). held_mode (state_of t.history).table c.args.session c.args.resource) c.self.view_is)
