use Rattle.std.proofs.Common.{◌≡◌, take}
use Rattle.lock_report.specs.Jam.{locks_among}
use Rattle.lock_report.proofs.blocking.requests.locks_among.Given as goal

-- the locks among the claims so far are listed
abbrev pub invariant-loop-claim : goal.invariant-loop-claim
invariant-loop-claim l = l.locks.items ≡ locks_among (take l.claim-index l.claims)
