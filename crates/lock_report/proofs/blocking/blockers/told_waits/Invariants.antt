use Rattle.std.proofs.Common.{◌≡◌, take}
use Rattle.lock_report.specs.Blockers.{told_waits}
use Rattle.lock_report.proofs.blocking.blockers.told_waits.Given as goal

-- the waits of the sessions so far are listed
abbrev pub invariant-loop-begun : goal.invariant-loop-begun
invariant-loop-begun l = l.told.items ≡ told_waits (take l.begun-index l.opens) l.claims l.waits
