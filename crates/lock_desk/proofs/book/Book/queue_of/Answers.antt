use Rattle.std.proofs.Common.{◌∙◌, ap, sym, length}
use Rattle.lock_rules.specs.State.{request_of}
use Rattle.lock_rules.specs.Legal.{state_of}
use Rattle.lock_rules.proofs.Steps.{state-lawful}
use Rattle.lock_desk.specs.BookView.{BookView}
use Rattle.lock_table.specs.declared.table.LockTable.{LockTable}
use Rattle.lock_table.specs.Changes.{view_at}
use Rattle.lock_desk.specs.Gauges.{queue_length}
use Rattle.lock_table.proofs.Listings.{request-shown}
use Rattle.lock_desk.proofs.QueuesTold.{queue-told, none-told}
use Rattle.lock_desk.proofs.BookInvariant.{behind}
use Rattle.lock_desk.proofs.book.Book.queue_of.Goals as goal

pub returns-in-Some : goal.returns-in-Some
returns-in-Some c =
    let k = behind c.self.inside c.deref.result.now c.deref.ensures c.self.invariant in
    let d = c.deref.result.now in
    let st = state_of c.self.inside.history.items in
    let line = sym (request-shown d st k.whole k.shows c.args.session (state-lawful c.self.inside.history.items).sound) ∙ (sym c.waiting_request.ensures ∙ c.in-Some.is) in
    c.queue_length.ensures
    ∙ ap (λ (x : LockTable). length (view_at c.in-Some.claim.resource x).waiting) (c.deref-in-Some.ensures ∙ sym c.deref.ensures)
    ∙ (queue-told d st (request_of c.args.session st.table.requests) c.in-Some.claim k.shows line
    ∙ ap (λ (t : BookView). queue_length (state_of t.history).table (request_of c.args.session (state_of t.history).table.requests)) c.self.view_is)

pub returns-in-None : goal.returns-in-None
returns-in-None c =
    let k = behind c.self.inside c.deref.result.now c.deref.ensures c.self.invariant in
    let d = c.deref.result.now in
    let st = state_of c.self.inside.history.items in
    let line = sym (request-shown d st k.whole k.shows c.args.session (state-lawful c.self.inside.history.items).sound) ∙ (sym c.waiting_request.ensures ∙ c.in-None.is) in
    none-told st (request_of c.args.session st.table.requests) line
    ∙ ap (λ (t : BookView). queue_length (state_of t.history).table (request_of c.args.session (state_of t.history).table.requests)) c.self.view_is
