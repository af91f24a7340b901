use Rattle.std.proofs.Common.{◌&&◌, ◌∙◌, refl, sym}
use Rattle.lock_tree.specs.Paths.{same_path}
use Rattle.lock_report.specs.Blockers.{first_blocker, is_waited_for}
use Rattle.lock_report.proofs.Firsts.{found_at, found_none, passed_by}
use Rattle.lock_report.proofs.blocking.blockers.first_blocker.Goals as goal

pub returns-then-is_blocker : goal.returns-then-is_blocker
returns-then-is_blocker c =
    let waits = c.args.waits.now in
    let r = c.args.resource in
    found_at (λ k. same_path k.resource r && is_waited_for k.session waits) (λ k. k.session) (first_blocker waits r) (λ x xs. refl) c.args.claims.now c.loop-claim.claim-index c.claim-item.result c.loop-claim-test.true
    c.claim-item.is c.loop-claim.invariant (sym c.is_blocker.ensures ∙ c.if-is_blocker.true)

pub loop-claim-preserved : goal.loop-claim-preserved
loop-claim-preserved c =
    let waits = c.args.waits.now in
    let r = c.args.resource in
    passed_by (λ k. same_path k.resource r && is_waited_for k.session waits) (λ k. k.session) (first_blocker waits r) (λ x xs. refl) c.args.claims.now c.loop-claim.claim-index c.claim-item.result c.loop-claim-test.true
    c.claim-item.is c.loop-claim.invariant (sym c.is_blocker.ensures ∙ c.if-is_blocker.false)

pub returns : goal.returns
returns c =
    found_none (first_blocker c.args.waits.now c.args.resource) refl c.args.claims.now c.loop-claim.claim-index c.loop-claim-test.false c.loop-claim.invariant
