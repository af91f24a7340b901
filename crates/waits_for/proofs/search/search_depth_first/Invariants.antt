use Rattle.std.proofs.Common.{◌≡◌, ◌+◌, ◌-◌, ◌*◌, ◌≤◌, length}
use Rattle.waits_for.specs.Pairs.{pairs_of}
use Rattle.waits_for.specs.inner.Bits.{words_for, unset_below}
use Rattle.waits_for.proofs.DepthFirst.{IsDepthFirst, IsLeading}
use Rattle.waits_for.proofs.search.search_depth_first.Given as goal

-- The search is under way, and its stack has no more sessions than are met.
abbrev pub invariant-loop-depth : goal.invariant-loop-depth
invariant-loop-depth l = record {
  unseen_room : length l.unseen ≡ words_for l.matrix.sessions;
  circle_room : length l.circle ≡ words_for l.matrix.sessions;
  stack_room : length l.stack ≡ l.matrix.sessions;
  links_room : length l.links ≡ l.matrix.sessions;
  few : l.depth ≤ unset_below l.matrix.sessions l.unseen;
  search : IsDepthFirst (pairs_of l.matrix) l.t l.fn.unseen l.unseen l.stack l.depth l.from;
  leading : IsLeading (pairs_of l.matrix) l.t l.circle l.stack l.depth;
}

-- Each round meets a session or takes one off the stack.
abbrev pub decreases-loop-depth : goal.decreases-loop-depth
decreases-loop-depth l = 2 * (l.matrix.sessions - unset_below l.matrix.sessions l.unseen) + l.depth
