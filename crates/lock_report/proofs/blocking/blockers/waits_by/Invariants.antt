use Rattle.std.proofs.Common.{◌≡◌, take}
use Rattle.lock_report.specs.Blockers.{waits_by}
use Rattle.lock_report.proofs.blocking.blockers.waits_by.Given as goal

-- the session's waits among those so far are listed
abbrev pub invariant-loop-wait : goal.invariant-loop-wait
invariant-loop-wait l = l.own.items ≡ waits_by l.session (take l.wait-index l.waits)
