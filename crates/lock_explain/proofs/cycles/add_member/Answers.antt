use Rattle.std.proofs.Common.{◌∙◌, ◌++◌, Bool, [], ◌∷◌, cond, ap, sym, append-nil}
use Rattle.lock_rules.specs.Legal.{state_of}
use Rattle.lock_explain.specs.declared.explanation.Party.{Party}
use Rattle.lock_explain.specs.Waiting.{party_of, waiting_state}
use Rattle.lock_explain.specs.inner.Asked.{claim_of}
use Rattle.lock_explain.proofs.OnCycle.{cycle-told}
use Rattle.lock_explain.proofs.cycles.add_member.Goals as goal

pub returns-in_ok-push-clause-members : goal.returns-in_ok-push-clause-members
returns-in_ok-push-clause-members c =
    let st = waiting_state (state_of c.args.before.now.history) (claim_of c.args.asked.now) in
    let told = cycle-told c.args.rows.now st c.requires.waits c.args.asked.now.session c.args.other c.requires.asked.some c.requires.some c.are_on_cycle.result c.are_on_cycle.ensures.walks in
    c.in_ok-push.ensures.items
    ∙ (ap (λ (p : Party). c.args.members.now.items ++ p ∷ []) c.party_of.ensures
    ∙ ap (λ (b : Bool). c.args.members.now.items ++ cond b (party_of st c.args.other ∷ []) []) (sym c.if-are_on_cycle.true ∙ told))

pub returns-else-are_on_cycle-clause-members : goal.returns-else-are_on_cycle-clause-members
returns-else-are_on_cycle-clause-members c =
    let st = waiting_state (state_of c.args.before.now.history) (claim_of c.args.asked.now) in
    let told = cycle-told c.args.rows.now st c.requires.waits c.args.asked.now.session c.args.other c.requires.asked.some c.requires.some c.are_on_cycle.result c.are_on_cycle.ensures.walks in
    sym (append-nil c.args.members.now.items)
    ∙ ap (λ (b : Bool). c.args.members.now.items ++ cond b (party_of st c.args.other ∷ []) []) (sym c.if-are_on_cycle.false ∙ told)
