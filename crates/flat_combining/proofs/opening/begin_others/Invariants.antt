use Rattle.std.specs.Prelude.{◌≡◌, All, map, [], ◌∷◌, ◌++◌}
use Rattle.publication.specs.Views.{answer}
use Rattle.combining.specs.Sessions.{IsSessionOf, IsIdle}
use Rattle.flat_combining.specs.Runs.{BeginsWith}
use Rattle.flat_combining.proofs.Runs.{but_known}
use Rattle.flat_combining.proofs.opening.begin_others.Given as goal

-- The session that made the call and those that have heard of it know it; these and those to come are the others.
abbrev pub invariant-loop-session : goal.invariant-loop-session
invariant-loop-session g l =
    ((IsSessionOf l.office l.own × IsIdle l.own) × BeginsWith l.fn.first l.own.front)
    × All (λ session. IsSessionOf l.office session × IsIdle session) l.made.items
    × All (λ session. BeginsWith l.fn.first session.front) l.made.items
    × All (λ session. IsSessionOf l.office session × IsIdle session) l.session-iterator.rest.items
    × (map but_known l.made.items ++ map but_known l.session-iterator.rest.items ≡ map but_known l.fn.others.items)
    × (l.own.number ≡ l.fn.own.number)
    × ((reply : g.row.M-Reply.Denot) × (l.own.collected ≡ l.fn.own.collected ++ answer 0 l.fn.first reply ∷ []))
