use Rattle.std.proofs.Common.{◌∙◌, ◌++◌, ◌+◌, List, ap, sym}
use Rattle.lock_rules.specs.declared.listing.Claim.{Claim}
use Rattle.lock_rules.specs.Legal.{state_of}
use Rattle.lock_explain.specs.Endings.{granted_request}
use Rattle.lock_explain.proofs.EndedNone.{none-granted}
use Rattle.lock_explain.proofs.endings.granted_requests.Goals as goal
use Rattle.lock_rules.proofs.Ranges.{next-session}

pub returns-then-ends_none : goal.returns-then-ends_none
returns-then-ends_none c =
    let before = c.args.before.now in
    c.new-granted.ensures.items
    ∙ sym (none-granted before.sessions before.history c.args.entry.now (state_of c.args.after.now.history) c.args.after.now.ended c.requires.served c.requires.ended (c.ends_none.ensures c.if-ends_none.true))

pub loop-position-preserved : goal.loop-position-preserved
loop-position-preserved c =
    let before = state_of c.args.before.now.history in
    let after = state_of c.args.after.now.history in
    let caller = c.args.entry.now.session in
    let n = c.loop-position.position in
    c.in_ok-add_granted.ensures ∙ (ap (λ (l : List Claim). l ++ granted_request caller before after (n + 1)) c.loop-position.invariant ∙ sym (next-session (granted_request caller before after) n))
