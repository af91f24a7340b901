use Rattle.std.proofs.Common.{length, ◌∙◌, ap, arith}
use Rattle.lock_rules.specs.State.{claims_of}
use Rattle.lock_rules.specs.Legal.{state_of}
use Rattle.lock_rules.proofs.Lawful.{lawful}
use Rattle.lock_rules.proofs.Steps.{state-lawful}
use Rattle.lock_desk.specs.BookView.{BookView}
use Rattle.lock_table.proofs.Simulation.{locks-shown}
use Rattle.lock_desk.proofs.BookInvariant.{behind}
use Rattle.lock_desk.proofs.book.Book.locks_held.Goals as goal

pub returns-clause-count : goal.returns-clause-count
returns-clause-count c =
    let k = behind c.self.inside c.deref.result.now c.deref.ensures c.self.invariant in
    let es = c.self.inside.history.items in
    c.locks_held.ensures
    ∙ (locks-shown c.deref.result.now (state_of es) c.args.session k.whole (state-lawful es).sound k.shows
    ∙ ap (λ (t : BookView). length (claims_of c.args.session (state_of t.history).table.held)) c.self.view_is)

pub returns-clause-few : goal.returns-clause-few
returns-clause-few c =
    let k = behind c.self.inside c.deref.result.now c.deref.ensures c.self.invariant in
    let es = c.self.inside.history.items in
    let held = c.locks_held.ensures ∙ locks-shown c.deref.result.now (state_of es) c.args.session k.whole (state-lawful es).sound k.shows in
    omega (arith, held, (lawful es).locks_bounded c.args.session)
