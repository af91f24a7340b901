use Rattle.std.proofs.Common.{◌≡◌, ◌++◌, take, string_bytes}
use Rattle.std.specs.List.{flat_map}
use Rattle.lock_report.specs.Dot.{edge_of}
use Rattle.lock_report.proofs.dot.put_edges.Given as goal

-- The edges of the waits before this one are written.
abbrev pub invariant-loop-wait : goal.invariant-loop-wait
invariant-loop-wait l = string_bytes l.out ≡ string_bytes l.fn.out ++ flat_map edge_of (take l.wait-index l.waits)
