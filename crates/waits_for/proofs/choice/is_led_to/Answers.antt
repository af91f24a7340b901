use Rattle.std.proofs.Common.{◌<◌, inl, inr, refl, sym, ◌∙◌, arith}
use Rattle.waits_for.specs.Pairs.{pairs_of}
use Rattle.waits_for.proofs.Walks.{reaches-to}
use Rattle.waits_for.proofs.choice.is_led_to.Goals as goal
use Rattle.waits_for.proofs.choice.is_led_to.Goals.{then-has-2, else-has-2}

pub loop-step-init : goal.loop-step-init
loop-step-init c = record {
  below = c.requires.u_below;
  by_below = c.requires.u_below;
  leads = inl refl;
}

pub returns-then-has : goal.returns-then-has
returns-then-has c _ = inr (reaches-to (pairs_of c.args.matrix.now) c.args.u c.args.t c.loop-step.at (sym (c.row-row.ensures.bits c.loop-step.at) ∙ (sym c.has.ensures ∙ c.if-has.true)) c.loop-step.invariant.leads)

pub loop-step-preserved : goal.loop-step-preserved
loop-step-preserved c =
    let below : _ < c.args.matrix.now.sessions = omega (arith, c.if-by-links.false, c.requires.links_room) in
    elim c.if-has-2.branch [
      | then-has-2 w ↦
          let step = sym (c.row.ensures.bits c.loop-step.at) ∙ (sym c.has-in-loop-step.ensures ∙ w.if-has-2.true) in
          record {
            below = rw w.at-is below;
            by_below = below;
            leads = rw w.at-is (inr (reaches-to (pairs_of c.args.matrix.now) c.args.u _ c.loop-step.at step c.loop-step.invariant.leads));
          }
      | else-has-2 w ↦ record {
        below = rw w.at-is c.loop-step.invariant.below;
        by_below = below;
        leads = rw w.at-is c.loop-step.invariant.leads;
      }
    ]
