use Rattle.std.proofs.Common.{◌++◌, ◌+◌, List, ap, sym, ◌∙◌}
use Rattle.lock_rules.specs.Legal.{state_of}
use Rattle.lock_explain.specs.declared.explanation.Party.{Party}
use Rattle.lock_explain.specs.Cycles.{party_on_cycle}
use Rattle.lock_explain.specs.Waiting.{waiting_state}
use Rattle.lock_explain.specs.inner.Asked.{claim_of}
use Rattle.lock_explain.proofs.OnCycle.{nobody}
use Rattle.lock_explain.proofs.cycles.members_of.Goals as goal
use Rattle.lock_rules.proofs.Ranges.{next-session}

pub returns-then-not-on_circle-clause-members : goal.returns-then-not-on_circle-clause-members
returns-then-not-on_circle-clause-members c =
    let st = waiting_state (state_of c.args.before.now.history) (claim_of c.args.asked.now) in
    c.new-members.ensures.items
    ∙ nobody c.args.rows.now st c.requires.waits c.args.before.now.sessions c.args.asked.now.session c.requires.asked.some (λ r. let e = c.on_circle.ensures.circle.1 r in let f = c.if-not-on_circle.true in absurd (cc))

pub loop-position-preserved : goal.loop-position-preserved
loop-position-preserved c =
    let st = waiting_state (state_of c.args.before.now.history) (claim_of c.args.asked.now) in
    let n = c.loop-position.position in
    let f = party_on_cycle st c.args.asked.now.session in (
      c.add_member.ensures.same ∙ c.loop-position.invariant.0,
      c.in_ok-add_member.ensures.members ∙ (ap (λ (l : List Party). l ++ f (n + 1)) c.loop-position.invariant.1 ∙ sym (next-session f n)),
    )
