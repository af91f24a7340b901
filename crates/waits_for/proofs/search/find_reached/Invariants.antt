use Rattle.std.proofs.Common.{◌≡◌, length}
use Rattle.waits_for.specs.Pairs.{pairs_of}
use Rattle.waits_for.specs.inner.Bits.{words_for, unset_below}
use Rattle.waits_for.proofs.Walks.{IsSearch}
use Rattle.waits_for.proofs.search.find_reached.Given as goal

-- All members are reached, and the edges from t and from the expanded sessions lead into the set.
abbrev pub invariant-loop-v : goal.invariant-loop-v
invariant-loop-v l = record {
  room : length l.reached ≡ words_for l.matrix.sessions;
  room_too : length l.expanded ≡ words_for l.matrix.sessions;
  search : IsSearch (pairs_of l.matrix) l.t l.reached l.expanded;
}

-- Each round expands one more session.
abbrev pub decreases-loop-v : goal.decreases-loop-v
decreases-loop-v l = unset_below l.matrix.sessions l.expanded
