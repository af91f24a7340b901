use Rattle.std.proofs.Common.{◌≡◌, take}
use Rattle.lock_report.specs.Blockers.{requests_among}
use Rattle.lock_report.proofs.blocking.requests.requests_among.Given as goal

-- the requests among the claims so far are listed
abbrev pub invariant-loop-claim : goal.invariant-loop-claim
invariant-loop-claim l = l.requests.items ≡ requests_among (take l.claim-index l.claims)
