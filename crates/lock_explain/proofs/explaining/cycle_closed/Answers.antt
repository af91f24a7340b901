use Rattle.std.proofs.Common.{◌∙◌, sym, subst}
use Rattle.waits_for.specs.Walks.{Reaches}
use Rattle.lock_rules.specs.Legal.{state_of}
use Rattle.lock_rules.specs.Waits.{waits_for}
use Rattle.lock_explain.specs.Waiting.{waiting_state}
use Rattle.lock_explain.specs.inner.Asked.{claim_of}
use Rattle.lock_explain.proofs.ChosenVictims.{none-closed}
use Rattle.lock_explain.proofs.OnCycle.{no-edges, no-members}
use Rattle.lock_explain.proofs.explaining.cycle_closed.Goals as goal

pub returns-then-is_empty-clause-members : goal.returns-then-is_empty-clause-members
returns-then-is_empty-clause-members c =
    let a = c.args.asked.now in
    let st = waiting_state (state_of c.args.before.now.history) (claim_of a) in
    let r = c.requires in
    let none = none-closed c.args.before.now.sessions c.args.entry.now.session c.args.before.now.history c.args.entry.now.call (claim_of a) c.args.victims.now (sym c.is_empty.ensures ∙ c.if-is_empty.true) r.served.entries r.served.session.some r.served.session.within r.begins r.victims in
    c.new.ensures.items ∙ sym (no-members st a.session (subst (λ u. Reaches (waits_for st.table) u u → ⊥) (sym r.own) none) c.args.before.now.sessions)

pub returns-then-is_empty-clause-edges : goal.returns-then-is_empty-clause-edges
returns-then-is_empty-clause-edges c =
    let a = c.args.asked.now in
    let st = waiting_state (state_of c.args.before.now.history) (claim_of a) in
    let r = c.requires in
    let none = none-closed c.args.before.now.sessions c.args.entry.now.session c.args.before.now.history c.args.entry.now.call (claim_of a) c.args.victims.now (sym c.is_empty.ensures ∙ c.if-is_empty.true) r.served.entries r.served.session.some r.served.session.within r.begins r.victims in
    c.new-then-is_empty.ensures.items ∙ sym (no-edges st a.session (subst (λ u. Reaches (waits_for st.table) u u → ⊥) (sym r.own) none) c.args.before.now.sessions)
