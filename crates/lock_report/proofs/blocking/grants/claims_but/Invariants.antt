use Rattle.std.proofs.Common.{◌≡◌, take}
use Rattle.lock_report.specs.Jam.{claims_but}
use Rattle.lock_report.proofs.blocking.grants.claims_but.Given as goal

-- of the claims so far, those of other sessions are listed
abbrev pub invariant-loop-claim : goal.invariant-loop-claim
invariant-loop-claim l = l.others.items ≡ claims_but l.session (take l.claim-index l.claims)
