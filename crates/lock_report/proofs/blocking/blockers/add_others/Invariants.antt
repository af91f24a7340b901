use Rattle.std.proofs.Common.{◌≡◌, ◌++◌, take}
use Rattle.std.specs.List.{flat_map}
use Rattle.lock_report.specs.Blockers.{other_wait}
use Rattle.lock_report.proofs.blocking.blockers.add_others.Given as goal

-- the waits so far are listed
abbrev pub invariant-loop-wait : goal.invariant-loop-wait
invariant-loop-wait l = l.told.items ≡ l.fn.told.items ++ flat_map (other_wait l.first) (take l.wait-index l.waits)
