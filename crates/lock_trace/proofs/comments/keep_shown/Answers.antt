use Rattle.std.proofs.Common.{arith, sym, ◌≡◌, ◌∙◌, ◌<◌, ◌≤◌, length}
use Rattle.lock_trace.proofs.Skipped.{kept_all, kept_no_more, kept_one}
use Rattle.lock_trace.proofs.comments.keep_shown.Goals as goal
use Rattle.lock_trace.proofs.comments.keep_shown.Goals.{then-is_shown, else-is_shown}

pub loop-at-preserved : goal.loop-at-preserved
loop-at-preserved c =
    let kept = c.loop-at.invariant in
    let lt : c.loop-at.at < length c.loop-at.bytes = omega (arith, c.loop-at-test.true, kept.same_length) in
    elim c.if-is_shown.branch [
      | then-is_shown w ↦ rw (w.bytes-is, w.kept-is, c.behind-spot.ensures) (kept_one _ _ _ _ _ _ kept lt (sym c.is_shown.ensures ∙ w.if-is_shown.true))
      | else-is_shown w ↦ rw (w.bytes-is, w.kept-is, c.behind-spot.ensures) (kept_no_more _ _ _ _ _ _ kept lt (sym c.is_shown.ensures ∙ w.if-is_shown.false))
    ]

pub returns-clause-shown : goal.returns-clause-shown
returns-clause-shown c = (kept_all _ _ _ _ _ _ c.loop-at.invariant (omega (arith, c.loop-at-test.false, c.loop-at.invariant.same_length))).0

pub returns-clause-spot : goal.returns-clause-spot
returns-clause-spot c = (kept_all _ _ _ _ _ _ c.loop-at.invariant (omega (arith, c.loop-at-test.false, c.loop-at.invariant.same_length))).1
