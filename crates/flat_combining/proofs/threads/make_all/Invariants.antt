use Rattle.std.specs.Prelude.{All}
use Rattle.combining.specs.Sessions.{IsSessionOf}
use Rattle.flat_combining.proofs.threads.make_all.Given as goal

-- The sessions that were taken out and those to come belong to the office.
abbrev pub invariant-loop-worked : goal.invariant-loop-worked
invariant-loop-worked g l = All (IsSessionOf l.office) l.back.items × All (λ worked. IsSessionOf l.office worked.0) l.worked-iterator.rest.items
