use Rattle.std.proofs.Common.{◌≡◌, ◌++◌, None, drop, map}
use Rattle.lock_report.specs.Jam.{jammed_behind}
use Rattle.lock_report.proofs.blocking.contended.jammed.Given as goal

-- with the claims on the resources from this claim on, the list will have all of them
abbrev pub invariant-loop-index : goal.invariant-loop-index
invariant-loop-index l = map (λ q. q.items) l.jammed.items ++ jammed_behind l.last (drop l.index l.claims) ≡ jammed_behind None l.claims
