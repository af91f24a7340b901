use Rattle.std.proofs.Common.{◌≡◌, reverse}
use Rattle.std.specs.Prelude.{vec_capacity}
use Rattle.waits_for.proofs.CycleFollowed.{IsFollowed}
use Rattle.waits_for.proofs.shortest_cycle.follow.Given as goal

-- The path from the position at the index on is written down, from its end.
abbrev pub invariant-loop-at : goal.invariant-loop-at
invariant-loop-at l = record {
  followed : IsFollowed l.rows l.met l.found l.at (reverse l.cycle.items);
  room : vec_capacity l.cycle ≡ vec_capacity l.initial.cycle;
}

-- Each step leads to an index before.
abbrev pub decreases-loop-at : goal.decreases-loop-at
decreases-loop-at l = l.at
