use Rattle.std.proofs.Common.{◌≡◌, ◌++◌, ◌∙◌, Bool, cond, List, [], ap, sym, append-nil}
use Rattle.lock_rules.specs.Legal.{state_of}
use Rattle.lock_rules.specs.State.{held_mode}
use Rattle.lock_rules.proofs.Steps.{state-lawful}
use Rattle.lock_explain.specs.declared.explanation.Blocker.{Blocker}
use Rattle.lock_explain.specs.declared.explanation.Party.{Party}
use Rattle.lock_explain.specs.Waiting.{party_of, held_in_conflict}
use Rattle.lock_explain.proofs.Ahead.{blocker-told, one-blocker}
use Rattle.lock_explain.proofs.waiting.add_blocker.Goals as goal

pub returns-then-not-is_blocker : goal.returns-then-not-is_blocker
returns-then-not-is_blocker c =
    let a = c.args.request.now in
    let st = state_of c.args.before.now.history in
    let held = c.conflicting-held.result in
    let ahead = c.request_ahead-ahead.result in
    let held_is : held ≡ held_in_conflict a.target (held_mode st.table c.args.other a.resource) = c.conflicting-held.ensures ∙ ap (held_in_conflict a.target) c.requires.held in
    let items = c.args.blockers.now.items in
    let e = blocker-told c.args.other a.session a.resource a.target st held ahead (state-lawful c.args.before.now.history).sound.once c.requires.asked.idle c.if-other-request.false held_is c.request_ahead-ahead.ensures in
    let none = e ∙ ap (λ (b : Bool). cond b (one-blocker (party_of st c.args.other) held ahead) []) (sym c.is_blocker.ensures ∙ c.if-not-is_blocker.true) in
    sym (ap (λ (l : List Blocker). items ++ l) none ∙ append-nil items)

pub returns : goal.returns
returns c =
    let a = c.args.request.now in
    let st = state_of c.args.before.now.history in
    let held = c.conflicting-held.result in
    let ahead = c.request_ahead-ahead.result in
    let held_is : held ≡ held_in_conflict a.target (held_mode st.table c.args.other a.resource) = c.conflicting-held.ensures ∙ ap (held_in_conflict a.target) c.requires.held in
    let items = c.args.blockers.now.items in
    let e = blocker-told c.args.other a.session a.resource a.target st held ahead (state-lawful c.args.before.now.history).sound.once c.requires.asked.idle c.if-other-request.false held_is c.request_ahead-ahead.ensures in
    let one = e ∙ ap (λ (b : Bool). cond b (one-blocker (party_of st c.args.other) held ahead) []) (sym c.is_blocker.ensures ∙ c.if-not-is_blocker.false) in
    c.in_ok-push.ensures.items
    ∙ ap (λ (p : Party). items ++ one-blocker p held ahead) c.party_of.ensures
    ∙ sym (ap (λ (l : List Blocker). items ++ l) one)
