use Rattle.std.proofs.Common.{◌≡◌, ◌∙◌, ◌++◌, false, List, Option, Some, None, is_some, IfOk, ap, map, refl, sym, subst}
use Rattle.std.specs.Prelude.{All}
use Rattle.sequential.specs.Histories.{IsEntryWithin}
use Rattle.lock_rules.specs.Entries.{Entry}
use Rattle.lock_rules.specs.Legal.{state_of}
use Rattle.lock_rules.specs.State.{Claim, request_of}
use Rattle.lock_report.specs.declared.snapshot.OpenTransaction.{OpenTransaction}
use Rattle.lock_report.specs.declared.snapshot.WaitLine.{WaitLine}
use Rattle.history_commands.specs.Showing.{open_of}
use Rattle.history_commands.specs.Waits.{first_blocker_of, waits_behind, waits_of, waits_since, with_since}
use Rattle.history_commands.proofs.StateTold.{waits-by-told}
use Rattle.history_commands.proofs.accounts.waits_of.Goals as goal

-- nothing, if there isn't something
nobody : (o : Option Claim) → is_some o ≡ false → o ≡ None
nobody None e = refl
nobody (Some q) e = absurd (cc)

pub returns-then-not-is_waiting : goal.returns-then-not-is_waiting
returns-then-not-is_waiting c =
    let book = c.args.book.now in
    let s = c.args.session in
    let t = (state_of book.history).table in
    let none = nobody (request_of s t.requests) (sym c.is_waiting.ensures ∙ c.if-not-is_waiting.true) in
    c.new.ensures.items ∙ sym (ap (λ (o : Option Claim). waits_behind book.sessions t s (waits_since s book.history) (first_blocker_of t s o)) none)

pub returns : goal.returns
returns c =
    let book = c.args.book.now in
    let s = c.args.session in
    let front = c.args.front.now in
    let st = state_of book.history in
    let opens = c.deref.ensures.value ∙ (c.in_ok-add_open.ensures ∙ ap (λ (l : List OpenTransaction). l ++ open_of s (st.begun s)) c.new-opens.ensures.items) in
    let told = waits-by-told book.sessions book.history (subst (λ (es : List Entry). All (IsEntryWithin book.sessions) es) (sym c.requires.front) c.requires.within) front s c.deref.result.now c.deref-2.result.now c.deref-3.result.now
    opens (c.deref-2.ensures.value ∙ c.in_ok-locks.ensures.ok) (c.deref-3.ensures.value ∙ c.in_ok-own.ensures) in
    subst (λ (x : List WaitLine). IfOk c.with_places.result (λ waits. waits.items ≡ x))
    (ap (map (with_since front)) (c.deref-4.ensures.value ∙ c.in_ok-told.ensures) ∙ (told ∙ ap (λ (es : List Entry). waits_of book.sessions st.table es s) (sym c.requires.front)))
    c.with_places.ensures
