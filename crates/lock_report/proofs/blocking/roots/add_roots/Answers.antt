use Rattle.std.proofs.Common.{◌∙◌, ap, sym, subst, map}
use Rattle.waits_for.specs.Pairs.{Pairs}
use Rattle.lock_report.specs.Jam.{root_of}
use Rattle.lock_report.specs.inner.Graph.{AreWaitsOf}
use Rattle.lock_report.proofs.Jammed.{next_root}
use Rattle.lock_report.proofs.blocking.roots.add_roots.Goals as goal

pub loop-begun-preserved : goal.loop-begun-preserved
loop-begun-preserved c =
    let same = c.in_ok-add_root.ensures.same in
    record {
      same = same ∙ c.loop-begun.invariant.same;
      roots = next_root (λ n. root_of n c.args.jam.requests.now (map (λ q. q.items) c.args.jam.jammed.now) c.args.jam.waits.now) _ _ c.args.opens.now c.loop-begun.begun-index _ _ _ _ c.loop-begun-test.true
          (ap (λ (p : Pairs). p.sessions) c.loop-begun.invariant.same) c.loop-begun.invariant.roots c.in_ok-add_root.ensures.roots;
    }
