use Rattle.std.proofs.Common.{◌≡◌, ◌++◌, take, string_bytes}
use Rattle.std.specs.List.{flat_map}
use Rattle.lock_report.specs.LocksDot.{edge_if_first}
use Rattle.lock_report.proofs.boxes.put_first_edges.Given as goal

-- The edges of the waits before this one are written.
abbrev pub invariant-loop-told : goal.invariant-loop-told
invariant-loop-told l = string_bytes l.out ≡ string_bytes l.fn.out ++ flat_map edge_if_first (take l.told-index l.waits)
