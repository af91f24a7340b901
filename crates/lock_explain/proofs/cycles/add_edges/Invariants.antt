use Rattle.std.proofs.Common.{◌≡◌, ◌++◌, take}
use Rattle.std.specs.List.{flat_map}
use Rattle.lock_explain.specs.inner.Graph.{edge_among}
use Rattle.lock_explain.proofs.cycles.add_edges.Given as goal

-- the edges to the members before this one are listed
abbrev pub invariant-loop-member : goal.invariant-loop-member
invariant-loop-member l = l.edges.items ≡ l.fn.edges.items ++ flat_map (edge_among l.rows l.session) (take l.member-index l.members)
