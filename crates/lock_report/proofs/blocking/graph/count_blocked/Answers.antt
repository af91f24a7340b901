use Rattle.std.proofs.Common.{◌∙◌, arith}
use Rattle.lock_report.specs.Jam.{is_blocked}
use Rattle.lock_report.proofs.CountedSessions.{counted}
use Rattle.lock_report.proofs.blocking.graph.count_blocked.Goals as goal

pub loop-below-preserved : goal.loop-below-preserved
loop-below-preserved c = record {
  count = counted (λ u. is_blocked c.args.waits.now u c.args.session) c.loop-below.below c.loop-below.count c.one_if-count.result c.leads_to.result c.loop-below.invariant.count c.one_if-count.ensures.value c.leads_to.ensures.walk;
  few = omega (arith, c.loop-below.invariant.few, c.one_if-count.ensures.few);
  same = c.leads_to.ensures.same ∙ c.loop-below.invariant.same;
}
