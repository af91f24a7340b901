use Rattle.std.proofs.Common.{◌≡◌, map, take}
use Rattle.lock_report.specs.Jam.{granted_by_abort}
use Rattle.lock_report.proofs.blocking.grants.granted_by_abort.Given as goal

-- what is granted on the resources so far is listed
abbrev pub invariant-loop-queue : goal.invariant-loop-queue
invariant-loop-queue l = l.granted.items ≡ granted_by_abort l.session (map (λ q. q.items) (take l.queue-index l.jammed))
