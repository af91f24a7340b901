use Rattle.std.proofs.Common.{◌≡◌, take}
use Rattle.std.specs.List.{flat_map}
use Rattle.lock_explain.specs.inner.Graph.{edges_from}
use Rattle.lock_explain.proofs.cycles.edges_of.Given as goal

-- the edges from the members before this one are listed
abbrev pub invariant-loop-member : goal.invariant-loop-member
invariant-loop-member l = l.edges.items ≡ flat_map (λ member. edges_from l.rows l.members member.session) (take l.member-index l.members)
