use Rattle.std.proofs.Common.{inl, inr, refl, sym, ◌∙◌}
use Rattle.waits_for.specs.Pairs.{pairs_of}
use Rattle.waits_for.proofs.Places.{pairs_of-within}
use Rattle.waits_for.proofs.Walks.{reaches-from}
use Rattle.waits_for.proofs.choice.leads_to.Goals as goal

pub loop-step-init : goal.loop-step-init
loop-step-init c = record {
  below = c.requires.u_below;
  led = inl refl;
}

pub returns-then-has : goal.returns-then-has
returns-then-has c _ = reaches-from (pairs_of c.args.matrix.now) c.args.u c.loop-step.at c.args.t c.loop-step.invariant.led (sym (c.row-row.ensures.bits c.args.t) ∙ (sym c.has.ensures ∙ c.if-has.true))

pub loop-step-preserved : goal.loop-step-preserved
loop-step-preserved c =
    let step = sym (c.row-row.ensures.bits c.in-Some.next) ∙ c.in-Some.ensures.0 in
    record {
      below = (pairs_of-within c.args.matrix.now c.loop-step.at c.in-Some.next step).1;
      led = inr (reaches-from (pairs_of c.args.matrix.now) c.args.u c.loop-step.at c.in-Some.next c.loop-step.invariant.led step);
    }
