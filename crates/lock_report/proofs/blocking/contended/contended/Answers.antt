use Rattle.std.proofs.Common.{◌∙◌, ◌≡◌, refl, sym, ap, filter, take}
use Rattle.std.proofs.lemmas.List.{take_all}
use Rattle.lock_rules.specs.declared.listing.Claim.{Claim}
use Rattle.std.proofs.Common.{List}
use Rattle.lock_report.specs.inner.Contended.{is_wanted}
use Rattle.lock_report.proofs.Wanted.{kept_more}
use Rattle.lock_report.proofs.blocking.contended.contended.Goals.{then-has+in_ok-push, else-has}
use Rattle.lock_report.proofs.blocking.contended.contended.Goals as goal

pub loop-claim-preserved : goal.loop-claim-preserved
loop-claim-preserved c =
    let p = λ (k : Claim). is_wanted c.args.requests.now k.resource in
    let told : c.has.result ≡ p c.claim-item.result = c.has.ensures ∙ c.in_ok-resources.ensures c.claim-item.result.resource in
    elim c.if-has.branch [
      | then-has+in_ok-push w ↦ rw w.kept-is (kept_more p c.args.claims.now c.loop-claim.claim-index c.claim-item.result _ _ _ c.loop-claim-test.true c.claim-item.is (sym w.if-has.true ∙ told) c.loop-claim.invariant w.in_ok-push.ensures.items)
      | else-has w ↦ rw w.kept-is (kept_more p c.args.claims.now c.loop-claim.claim-index c.claim-item.result _ _ _ c.loop-claim-test.true c.claim-item.is (sym w.if-has.false ∙ told) c.loop-claim.invariant refl)
    ]

pub returns : goal.returns
returns c =
    c.loop-claim.invariant ∙ ap (λ (cs : List Claim). filter (λ (k : Claim). is_wanted c.args.requests.now k.resource) cs) (take_all c.loop-claim.claim-index c.args.claims.now c.loop-claim-test.false)
