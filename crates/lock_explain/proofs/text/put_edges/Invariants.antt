use Rattle.std.proofs.Common.{◌≡◌, ◌++◌, take, string_bytes}
use Rattle.std.specs.List.{flat_map}
use Rattle.lock_explain.specs.ExplanationText.{line_of_edge}
use Rattle.lock_explain.proofs.text.put_edges.Given as goal

-- The lines of the waits before this one are written.
abbrev pub invariant-loop-edge : goal.invariant-loop-edge
invariant-loop-edge l = string_bytes l.out ≡ string_bytes l.fn.out ++ flat_map line_of_edge (take l.edge-index l.edges)
