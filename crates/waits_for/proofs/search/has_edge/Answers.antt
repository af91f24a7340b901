use Rattle.std.proofs.Common.{◌≡◌, ◌<◌, Bool, true, false, refl, ◌∙◌, arith}
use Rattle.waits_for.specs.Pairs.{pairs_of}
use Rattle.waits_for.proofs.Places.{pairs_of-within}
use Rattle.waits_for.proofs.search.has_edge.Goals as goal

pub returns-then-u-sessions : goal.returns-then-u-sessions
returns-then-u-sessions c = none (pairs_of c.args.matrix.now c.args.u c.args.t) (λ h. omega (arith, (pairs_of-within c.args.matrix.now c.args.u c.args.t h).0, c.sessions.ensures.sessions, c.if-u-sessions.true))
  where
    none : (b : Bool) → (b ≡ true → ⊥) → false ≡ b
    none true h = absurd (h refl)
    none false h = refl

pub returns : goal.returns
returns c = c.has.ensures ∙ c.row.ensures.bits c.args.t
