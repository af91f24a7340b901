use Rattle.std.proofs.Common.{◌≡◌, ◌++◌, drop}
use Rattle.lock_report.specs.Jam.{granted_of}
use Rattle.lock_report.proofs.blocking.grants.add_granted_of.Given as goal

-- with what is granted from this request on, beside the locks that are there now, the list will have all that is granted
abbrev pub invariant-loop-request : goal.invariant-loop-request
invariant-loop-request l = l.granted.items ++ granted_of l.beside.items (drop l.request-index l.queue) ≡ l.fn.granted.items ++ granted_of l.fn.locks.items l.queue
