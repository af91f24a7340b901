use Rattle.std.proofs.Common.{sym, ◌∙◌}
use Rattle.std.proofs.lemmas.Bool.{false≢true}
use Rattle.waits_for.specs.Pairs.{pairs_of}
use Rattle.waits_for.proofs.Walks.{no_cycle, last-step}
use Rattle.waits_for.proofs.rows.Rows.youngest_on_circle.Goals as goal

pub returns-then-not-have_common-clause-on_circle : goal.returns-then-not-have_common-clause-on_circle
returns-then-not-have_common-clause-on_circle c = rw (← c.self.view_is) (
  λ h. absurd (false≢true h),
  λ r. absurd (no_cycle (pairs_of c.self.inside.matrix) c.args.t c.row.result.now c.deref.result.now c.row.ensures.bits (rw c.deref.ensures.value c.self.invariant.1) (λ u mine theirs. false≢true (sym c.if-not-have_common.true ∙ c.have_common.ensures.1 (u, mine, theirs))) r),
)

pub returns-then-not-is_waited_for-clause-on_circle : goal.returns-then-not-is_waited_for-clause-on_circle
returns-then-not-is_waited_for-clause-on_circle c = rw (← c.self.view_is) (
  λ h. absurd (false≢true h),
  λ r. absurd (false≢true (sym c.if-not-is_waited_for.true ∙ c.is_waited_for.ensures.1 (last-step (pairs_of c.self.inside.matrix) c.args.t c.args.t r))),
)
