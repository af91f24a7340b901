use Rattle.std.proofs.Common.{◌≡◌, ◌++◌, take, string_bytes}
use Rattle.std.specs.List.{flat_map}
use Rattle.lock_report.specs.StateRows.{row_of_wait}
use Rattle.lock_report.proofs.rows.put_waits.Given as goal

-- The rows of the waits before this one are written.
abbrev pub invariant-loop-wait : goal.invariant-loop-wait
invariant-loop-wait l = string_bytes l.out ≡ string_bytes l.fn.out ++ flat_map row_of_wait (take l.wait-index l.waits)
