use Rattle.std.proofs.Common.{◌≡◌, ◌∙◌, ℕ, List, Some, IfOk, string_bytes, ap, sym, subst}
use Rattle.std.specs.Prelude.{All}
use Rattle.lock_rules.specs.Legal.{state_of}
use Rattle.lock_desk.specs.declared.gauges.Gauges.{Gauges}
use Rattle.lock_report.specs.declared.snapshot.OpenTransaction.{OpenTransaction}
use Rattle.lock_report.specs.declared.snapshot.WaitFor.{WaitFor}
use Rattle.lock_report.specs.ReadRows.{IsSession, IsWait}
use Rattle.history_commands.specs.Forms.{form_of_lists}
use Rattle.history_commands.specs.Showing.{opens_of, waits_of}
use Rattle.history_commands.proofs.StateTold.{form-told, lists-within}
use Rattle.history_commands.proofs.showing.book_text.Goals as goal

pub form_text-requires-clause-opens : goal.form_text-requires-clause-opens
form_text-requires-clause-opens c =
    let book = c.args.book.now in
    let os = opens_of book.sessions (state_of book.history) in
    subst (λ (l : List OpenTransaction). All (λ o. IsSession c.sessions.result o.session) l) (sym c.in_ok-lists.ensures.opens)
    (subst (λ (n : ℕ). All (λ o. IsSession n o.session) os) (sym c.sessions.ensures.sessions) (lists-within book.sessions book.history c.history.ensures.within).0)

pub form_text-requires-clause-waits : goal.form_text-requires-clause-waits
form_text-requires-clause-waits c =
    let book = c.args.book.now in
    let ws = waits_of book.sessions (state_of book.history) in
    subst (λ (l : List WaitFor). All (IsWait c.sessions.result) l) (sym c.in_ok-lists.ensures.waits)
    (subst (λ (n : ℕ). All (IsWait n) ws) (sym c.sessions.ensures.sessions) (lists-within book.sessions book.history c.history.ensures.within).1)

pub returns : goal.returns
returns c =
    let book = c.args.book.now in
    let lists = c.in_ok-lists.lists in
    let front = c.args.front.now in
    let told = form-told book.sessions book.history c.history.ensures.within c.args.form c.args.place c.gauges.result.waiting front lists.opens.items lists.claims.items lists.waits.items c.requires.served
    (ap (λ (g : Gauges). g.waiting) c.gauges.ensures) c.in_ok-lists.ensures.opens c.in_ok-lists.ensures.claims c.in_ok-lists.ensures.waits in
    subst (λ (x : List ℕ). IfOk c.form_text.result (λ text. string_bytes text ≡ x))
    ((λ i. form_of_lists c.args.form (record { sessions = c.sessions.ensures.sessions i; place = Some c.args.place; waiting = c.gauges.result.waiting }) front lists.opens.items lists.claims.items lists.waits.items) ∙ told)
    c.form_text.ensures
