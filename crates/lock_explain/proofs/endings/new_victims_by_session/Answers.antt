use Rattle.std.proofs.Common.{◌∙◌, ◌++◌, ◌+◌, List, ap, sym}
use Rattle.lock_rules.specs.Legal.{state_of}
use Rattle.lock_explain.specs.declared.explanation.Party.{Party}
use Rattle.lock_explain.specs.inner.NewVictims.{new_victim}
use Rattle.lock_explain.proofs.endings.new_victims_by_session.Goals as goal
use Rattle.lock_rules.proofs.Ranges.{next-session}

pub loop-position-preserved : goal.loop-position-preserved
loop-position-preserved c =
    let before = state_of c.args.before.now.history in
    let after = state_of c.args.after.now.history in
    let n = c.loop-position.position in
    c.in_ok-add_new_victim.ensures ∙ (ap (λ (l : List Party). l ++ new_victim before after (n + 1)) c.loop-position.invariant ∙ sym (next-session (new_victim before after) n))
