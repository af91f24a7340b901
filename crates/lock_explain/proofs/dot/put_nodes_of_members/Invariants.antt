use Rattle.std.proofs.Common.{◌≡◌, ◌++◌, take, string_bytes}
use Rattle.std.specs.List.{flat_map}
use Rattle.lock_explain.specs.ExplanationDot.{node_of_member}
use Rattle.lock_explain.proofs.dot.put_nodes_of_members.Given as goal

-- The nodes of the sessions before this one are written.
abbrev pub invariant-loop-member : goal.invariant-loop-member
invariant-loop-member l = string_bytes l.out ≡ string_bytes l.fn.out ++ flat_map node_of_member (take l.member-index l.members)
