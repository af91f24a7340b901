use Rattle.std.proofs.Common.{◌≡◌, ◌∙◌, ℕ, Bool, false, Option, Some, None, is_some, refl, sym, ap}
use Rattle.lock_rules.specs.Legal.{state_of}
use Rattle.lock_rules.specs.Listing.{waiting_line, listed_request}
use Rattle.lock_rules.specs.State.{Claim, State, is_waiting, held_mode, request_of}
use Rattle.lock_rules.specs.declared.listing.Claim.{Claim as ListedClaim}
use Rattle.lock_rules.proofs.Steps.{state-lawful}
use Rattle.lock_explain.specs.inner.Ahead.{ahead_by}
use Rattle.lock_explain.proofs.Ahead.{ahead-told}
use Rattle.lock_explain.proofs.waiting.request_ahead.Goals as goal

-- who doesn't wait has no line
no-line : (st : State) (u : ℕ) → is_waiting st u ≡ false → waiting_line st u ≡ None
no-line st u = go (request_of u st.table.requests) refl
  where
    go : (o : Option Claim) → request_of u st.table.requests ≡ o → is_some o ≡ false → listed_request st (request_of u st.table.requests) ≡ None
    go None e n = ap (listed_request st) e
    go (Some q) e n = absurd (cc n)

pub returns-then-not-is_waiting : goal.returns-then-not-is_waiting
returns-then-not-is_waiting c =
    let a = c.args.asked in
    let st = state_of c.args.before.now.history in
    let none = no-line st c.args.other (sym c.is_waiting.ensures ∙ c.if-not-is_waiting.true) in
    sym (ap (ahead_by (is_some (held_mode st.table a.session a.resource)) a.resource) none)
    ∙ ahead-told c.args.other a.session a.resource a.target st (state-lawful c.args.before.now.history).sound.once c.requires.asked.idle

pub returns : goal.returns
returns c =
    let a = c.args.asked in
    let st = state_of c.args.before.now.history in
    c.ahead_by.ensures
    ∙ ap (λ (o : Option ListedClaim). ahead_by a.converts a.resource o) c.request.ensures
    ∙ ap (λ (b : Bool). ahead_by b a.resource (waiting_line st c.args.other)) c.requires.asked.converts
    ∙ ahead-told c.args.other a.session a.resource a.target st (state-lawful c.args.before.now.history).sound.once c.requires.asked.idle
