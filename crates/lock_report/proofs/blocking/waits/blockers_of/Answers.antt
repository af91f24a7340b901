use Rattle.std.proofs.Common.{◌∙◌, sym}
use Rattle.lock_report.proofs.Ahead.{at-end, at-other, at-own}
use Rattle.lock_report.proofs.blocking.waits.blockers_of.Goals as goal

pub returns-then-is_own : goal.returns-then-is_own
returns-then-is_own c = λ u. at-own c.args.request.now u c.args.queue.now c.loop-claim.claim-index c.claim-item.result _ c.loop-claim-test.true c.claim-item.is (sym c.is_own.ensures ∙ c.if-is_own.true) (c.loop-claim.invariant u)

pub loop-claim-preserved : goal.loop-claim-preserved
loop-claim-preserved c = λ u.
    at-other c.args.request.now u c.args.queue.now c.loop-claim.claim-index c.claim-item.result _ _ c.loop-claim-test.true c.claim-item.is (sym c.is_own.ensures ∙ c.if-is_own.false) (c.in_ok-add_blocker.ensures u) (c.loop-claim.invariant u)

pub returns : goal.returns
returns c = λ u. at-end c.args.request.now u c.args.queue.now c.loop-claim.claim-index _ c.loop-claim-test.false (c.loop-claim.invariant u)
