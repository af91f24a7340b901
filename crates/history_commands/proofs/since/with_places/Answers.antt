use Rattle.std.proofs.Common.{ℕ, List, sym, subst}
use Rattle.history_commands.specs.Waits.{AreSince}
use Rattle.history_commands.proofs.WaitsSince.{waits-more}
use Rattle.history_commands.proofs.since.with_places.Goals as goal

pub loop-wait-preserved : goal.loop-wait-preserved
loop-wait-preserved c =
    let es = c.args.entries.now in
    let told = c.with_since.ensures es (subst (λ (places : List ℕ). AreSince es places) (sym c.deref.ensures.value) c.in_ok-places.ensures.since) in
    waits-more es c.args.waits.now c.loop-wait.wait-index _ c.loop-wait.told.items c.push.new.self.items c.with_since.result c.loop-wait-test.true told c.loop-wait.invariant c.in_ok-push.ensures.items
