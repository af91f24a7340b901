use Rattle.std.proofs.Common.{◌≡◌, drop}
use Rattle.lock_report.specs.Blockers.{first_blocker}
use Rattle.lock_report.proofs.blocking.blockers.first_blocker.Given as goal

-- the first blocker among the claims from this one on is the first of all
abbrev pub invariant-loop-claim : goal.invariant-loop-claim
invariant-loop-claim l = first_blocker l.waits l.resource (drop l.claim-index l.claims) ≡ first_blocker l.waits l.resource l.claims
