use Rattle.std.proofs.Common.{◌≡◌, ◌++◌, take, string_bytes}
use Rattle.std.specs.List.{flat_map}
use Rattle.lock_report.specs.Dot.{node_of}
use Rattle.lock_report.proofs.dot.put_nodes.Given as goal

-- The nodes of the open transactions before this one are written.
abbrev pub invariant-loop-begun : goal.invariant-loop-begun
invariant-loop-begun l = string_bytes l.out ≡ string_bytes l.fn.out ++ flat_map node_of (take l.begun-index l.opens)
