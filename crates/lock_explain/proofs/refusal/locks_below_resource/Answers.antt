use Rattle.std.proofs.Common.{◌∙◌, filter, take_all, ap}
use Rattle.lock_rules.specs.Legal.{state_of}
use Rattle.lock_explain.specs.Refused.{is_lock_below}
use Rattle.lock_explain.proofs.LocksBelow.{below-told}
use Rattle.lock_explain.proofs.refusal.locks_below_resource.Goals as goal

pub returns : goal.returns
returns c =
    let history = c.args.before.now.history in
    let items = c.deref-line-items.result.now in
    c.loop-line.invariant
    ∙ (ap (filter (is_lock_below c.args.session c.args.resource)) (take_all c.loop-line.line-index items c.loop-line-test.false ∙ (c.deref-line-items.ensures.value ∙ c.in_ok-locks_of.ensures.ok))
    ∙ below-told (state_of history) c.args.session c.args.resource c.locks_held-count.result (c.pages_tell_each_lock_once.ensures.look history c.args.session) c.locks_held-count.ensures.count)
