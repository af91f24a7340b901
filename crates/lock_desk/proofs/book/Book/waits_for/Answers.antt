use Rattle.std.proofs.Common.{◌∙◌, ap}
use Rattle.lock_rules.specs.Waits.{waits_for}
use Rattle.lock_rules.specs.Legal.{state_of}
use Rattle.lock_rules.proofs.Steps.{state-lawful}
use Rattle.lock_desk.specs.BookView.{BookView}
use Rattle.lock_table.proofs.RowsOfTheTable.{written-blocks}
use Rattle.lock_table.proofs.WaitsOfTheState.{pairs-shown}
use Rattle.lock_desk.proofs.BookInvariant.{behind}
use Rattle.lock_desk.proofs.book.Book.waits_for.Goals as goal

pub returns : goal.returns
returns c =
    let k = behind c.self.inside c.deref.result.now c.deref.ensures c.self.invariant in
    let es = c.self.inside.history.items in
    let s = c.args.session in
    let u = c.args.other in
    c.waits_for.ensures
    ∙ (written-blocks c.deref.result.now k.whole k.ready s u
    ∙ (pairs-shown c.deref.result.now (state_of es) k.whole (state-lawful es).sound k.shows s u
    ∙ ap (λ (t : BookView). waits_for (state_of t.history).table s u) c.self.view_is))
