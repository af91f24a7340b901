use Rattle.std.proofs.Common.{◌≡◌, ◌++◌, take, string_bytes}
use Rattle.std.specs.List.{flat_map}
use Rattle.lock_explain.specs.ExplanationDot.{edge_of_blocker}
use Rattle.lock_explain.proofs.dot.put_edges_of_blockers.Given as goal

-- The edges to the blockers before this one are written.
abbrev pub invariant-loop-blocker : goal.invariant-loop-blocker
invariant-loop-blocker l = string_bytes l.out ≡ string_bytes l.fn.out ++ flat_map (edge_of_blocker l.session) (take l.blocker-index l.blockers)
