use Rattle.std.proofs.Common.{◌≡◌, filter, take}
use Rattle.lock_report.specs.inner.Contended.{is_wanted}
use Rattle.lock_report.proofs.blocking.contended.contended.Given as goal

-- the claims so far that are on wanted resources are kept
abbrev pub invariant-loop-claim : goal.invariant-loop-claim
invariant-loop-claim l = l.kept.items ≡ filter (λ c. is_wanted l.requests c.resource) (take l.claim-index l.claims)
