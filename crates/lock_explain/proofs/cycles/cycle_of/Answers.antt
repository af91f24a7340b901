use Rattle.std.proofs.Common.{◌≡◌, ℕ, List, ap, sym, subst, ◌∙◌}
use Rattle.std.specs.List.{All}
use Rattle.waits_for.specs.Pairs.{Pairs}
use Rattle.lock_rules.specs.Legal.{state_of}
use Rattle.lock_explain.specs.declared.explanation.Party.{Party}
use Rattle.lock_explain.specs.Waiting.{waiting_state}
use Rattle.lock_explain.specs.inner.Asked.{claim_of}
use Rattle.lock_explain.specs.inner.Graph.{IsPartyWithin, edges_among}
use Rattle.lock_explain.proofs.OnCycle.{members-within, edges-told}
use Rattle.lock_explain.proofs.cycles.cycle_of.Goals as goal

pub edges_of-requires : goal.edges_of-requires
edges_of-requires c =
    let st = waiting_state (state_of c.args.before.now.history) (claim_of c.args.asked) in
    let n = c.args.before.now.sessions in
    let sessions : c.members_of.new.rows.sessions ≡ n = ap (λ (p : Pairs). p.sessions) c.members_of.ensures.same ∙ c.in_ok-rows.ensures.sessions in
    let members = c.deref.ensures.value ∙ c.in_ok-members.ensures.members in
    record {
      members = subst (λ (k : ℕ). All (IsPartyWithin k) c.deref.result.now) (sym sessions) (subst (λ (l : List Party). All (IsPartyWithin n) l) (sym members) (members-within st c.args.asked.session n));
    }

pub returns-clause-edges : goal.returns-clause-edges
returns-clause-edges c =
    let st = waiting_state (state_of c.args.before.now.history) (claim_of c.args.asked) in
    let n = c.args.before.now.sessions in
    let members = c.deref.ensures.value ∙ c.in_ok-members.ensures.members in
    c.in_ok-edges.ensures
    ∙ (ap (λ (p : Pairs). edges_among p c.deref.result.now) c.members_of.ensures.same
    ∙ (ap (edges_among c.in_ok-rows.rows) members
    ∙ edges-told st c.args.asked.session c.in_ok-rows.rows c.in_ok-rows.ensures.waits n))
