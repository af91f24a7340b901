use Rattle.std.proofs.Common.{◌≡◌, ◌++◌, take, string_bytes}
use Rattle.std.specs.List.{flat_map}
use Rattle.lock_report.specs.LocksDot.{line_if_lock}
use Rattle.lock_report.proofs.boxes.put_locks.Given as goal

-- The lines of the locks among the claims before this one are written.
abbrev pub invariant-loop-claim : goal.invariant-loop-claim
invariant-loop-claim l = string_bytes l.out ≡ string_bytes l.fn.out ++ flat_map line_if_lock (take l.claim-index l.claims)
