use Rattle.std.proofs.Common.{◌≡◌, ◌∙◌, ◌<◌, ℕ, List, length, length-take, take, sym, ap, subst, subst₂, arith}
use Rattle.std.specs.List.{All}
use Rattle.std.proofs.lemmas.List.Elements.{All-take}
use Rattle.std.proofs.lemmas.Result.{IfOk-weaker}
use Rattle.sequential.specs.Histories.{IsEntryWithin}
use Rattle.lock_rules.specs.Entries.{Entry}
use Rattle.command_line.specs.declared.args.Form.TheVariants as form
use Rattle.history_commands.specs.Explaining.{IsAccount}
use Rattle.lock_shell.proofs.Told.{told_at}
use Rattle.lock_shell.proofs.why.account_at.Goals as goal

-- the entries are of sessions of the book
within : (n : ℕ) (history entries : List Entry) → entries ≡ history → All (IsEntryWithin n) history → All (IsEntryWithin n) entries
within n history entries same = subst (λ (es : List Entry). All (IsEntryWithin n) es) (sym same)

pub serve_explained-requires : goal.serve_explained-requires
serve_explained-requires c =
    let n = c.args.after.now.sessions in
    let entries = c.history-entries.result.now in
    let same : entries ≡ c.args.after.now.history = c.history-entries.ensures.all c.requires.all c.requires.unbounded in
    let e = c.index-entries-place.result in
    let there : c.args.place < length entries = omega (arith, c.requires.there, ap length same) in
    let own = subst (IsEntryWithin n) (sym c.index-entries-place.is) (within n c.args.after.now.history entries same c.history-entries.ensures.within c.args.place e there) in
    let alike = c.in_ok-desk.ensures.alike in
    record { some = own.some; within = omega (arith, own.within, alike.sessions); sessions = alike.others ∙ sym alike.sessions; same = sym alike.history }

pub account-requires : goal.account-requires
account-requires c =
    let n = c.args.after.now.sessions in
    let place = c.args.place in
    let entries = c.history-entries.result.now in
    let same : entries ≡ c.args.after.now.history = c.history-entries.ensures.all c.requires.all c.requires.unbounded in
    let there : place < length entries = omega (arith, c.requires.there, ap length same) in
    let alike = c.in_ok-desk.ensures.alike in
    let front = alike.history ∙ (c.in_ok-desk.ensures.served ∙ ap (λ (es : List Entry). take place es) (sym same)) in
    record {
      within = subst (λ (k : ℕ). All (IsEntryWithin k) (take place entries)) (sym alike.sessions) (All-take (IsEntryWithin n) place entries (within n c.args.after.now.history entries same c.history-entries.ensures.within));
      front = front;
      explained = c.in_ok-told.ensures.explanation;
      place = omega (arith, ap length front, length-take place entries, there);
    }

pub returns : goal.returns
returns c =
    let alike = c.in_ok-desk.ensures.alike in
    IfOk-weaker c.account.result _ _
    (λ text is. told_at c.args.after.now.sessions c.args.after.now.history c.history-entries.result.now c.args.place c.index-entries-place.result text.items
    (c.history-entries.ensures.all c.requires.all c.requires.unbounded) c.requires.there c.index-entries-place.is
    (subst₂ (λ (n : ℕ) (es : List Entry). IsAccount form.Lines n es c.index-entries-place.result text.items) alike.sessions (alike.history ∙ c.in_ok-desk.ensures.served) is))
    c.account.ensures
