use Rattle.std.proofs.Common.{rules}
use Rattle.std.proofs.lemmas.Fn.{always_returns_same}
use Rattle.lock_rules.specs.Legal.{state_of}
use Rattle.lock_rules.proofs.Owners.{state-numbered}
use Rattle.lock_explain.proofs.NewVictims.{are-new_victims, is_younger, younger-orders}
use Rattle.lock_explain.proofs.endings.new_victims.Goals as goal

pub returns : goal.returns
returns c =
    let before = state_of c.args.before.now.history in
    let after = state_of c.args.after.now.history in
    are-new_victims c.args.before.now.sessions before after c.sort_unstable_by.new.self.items (state-numbered c.args.after.now.history).apart
    (rw (← c.in_ok-victims.ensures) c.sort_unstable_by.ensures.permutation)
    (c.sort_unstable_by.ensures.sorted is_younger younger-orders (always_returns_same _ _ _ (λ a r q k. search rules)))
