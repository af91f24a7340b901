use Rattle.std.proofs.Common.{◌≡◌, ◌++◌, None, drop}
use Rattle.lock_report.specs.LocksDot.{boxed_behind}
use Rattle.lock_report.proofs.queues.waited.Given as goal

-- With the resources that are waited for from this claim on, the list will have all of them.
abbrev pub invariant-loop-index : goal.invariant-loop-index
invariant-loop-index l = l.boxed.items ++ boxed_behind l.last (drop l.index l.claims) ≡ boxed_behind None l.claims
