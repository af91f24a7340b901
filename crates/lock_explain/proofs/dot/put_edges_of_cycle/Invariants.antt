use Rattle.std.proofs.Common.{◌≡◌, ◌++◌, take, string_bytes}
use Rattle.std.specs.List.{flat_map}
use Rattle.lock_explain.specs.ExplanationDot.{edge_of_cycle}
use Rattle.lock_explain.proofs.dot.put_edges_of_cycle.Given as goal

-- The edges of the waits before this one are written.
abbrev pub invariant-loop-edge : goal.invariant-loop-edge
invariant-loop-edge l = string_bytes l.out ≡ string_bytes l.fn.out ++ flat_map edge_of_cycle (take l.edge-index l.edges)
