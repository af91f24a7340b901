use Rattle.std.proofs.Common.{◌≡◌, ◌++◌, drop}
use Rattle.lock_report.specs.Blocking.{first_waits}
use Rattle.lock_report.proofs.blocking.wait_rows.first_waits.Given as goal

-- with those of the waits from this one on, the list will have all rows
abbrev pub invariant-loop-index : goal.invariant-loop-index
invariant-loop-index l = l.rows.items ++ first_waits (drop l.index l.told) ≡ first_waits l.told
