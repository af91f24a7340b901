use Rattle.std.proofs.Common.{◌∙◌, ap}
use Rattle.lock_rules.specs.Legal.{state_of}
use Rattle.lock_rules.specs.State.{is_waiting}
use Rattle.lock_desk.specs.BookView.{BookView}
use Rattle.lock_table.proofs.Simulation.{waits-shown}
use Rattle.lock_desk.proofs.BookInvariant.{behind}
use Rattle.lock_desk.proofs.book.Book.is_waiting.Goals as goal

pub returns : goal.returns
returns c =
    let k = behind c.self.inside c.deref.result.now c.deref.ensures c.self.invariant in
    let es = c.self.inside.history.items in
    c.is_waiting.ensures
    ∙ (waits-shown c.deref.result.now (state_of es) c.args.session k.whole k.shows
    ∙ ap (λ (t : BookView). is_waiting (state_of t.history) c.args.session) c.self.view_is)
