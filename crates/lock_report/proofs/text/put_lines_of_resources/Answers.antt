use Rattle.lock_report.proofs.ResourceLines.{next_claim, next_last}
use Rattle.lock_report.proofs.text.put_lines_of_resources.Goals as goal

pub loop-claim-preserved : goal.loop-claim-preserved
loop-claim-preserved c = record {
  text = next_claim c.args.claims.now c.loop-claim.claim-index c.claim-item.result c.loop-claim.last _ _ _ _ c.loop-claim-test.true c.claim-item.is c.loop-claim.invariant.last
      c.loop-claim.invariant.text c.in_ok-put_resource_heading.ensures c.in_ok-put_line_of_resource.ensures;
  last = next_last c.args.claims.now c.loop-claim.claim-index c.claim-item.result c.loop-claim-test.true c.claim-item.is;
}
