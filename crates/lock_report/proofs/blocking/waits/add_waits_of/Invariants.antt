use Rattle.std.proofs.Common.{◌≡◌, ◌++◌, Some}
use Rattle.lock_report.specs.Blocking.{waits_of}
use Rattle.lock_report.proofs.blocking.waits.add_waits_of.Given as goal

-- the waits for the sessions so far are listed
abbrev pub invariant-loop-before : goal.invariant-loop-before
invariant-loop-before l = l.waits.items ≡ l.fn.waits.items ++ waits_of l.before l.claims (Some l.request)
