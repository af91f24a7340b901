use Rattle.std.proofs.Common.{◌≡◌, ℕ, ◌-◌, ◌<◌, ◌≤◌, true, false}
use Rattle.waits_for.specs.Pairs.{pairs_of}
use Rattle.waits_for.specs.inner.Bits.{has_bit, unset_below}
use Rattle.waits_for.specs.inner.Search.{AddsPredecessors}
use Rattle.waits_for.proofs.search.add_predecessors.Given as goal

-- If nothing was added so far, the set is unchanged, and closed as far as the pass has come.
abbrev pub invariant-loop-u : goal.invariant-loop-u
invariant-loop-u l = record {
  at_most : l.u ≤ l.matrix.sessions;
  adds : AddsPredecessors (pairs_of l.matrix) l.fn.reaching l.reaching;
  more : l.grew ≡ true → unset_below l.matrix.sessions l.reaching < unset_below l.matrix.sessions l.fn.reaching;
  same : l.grew ≡ false → l.reaching ≡ l.fn.reaching;
  closed : l.grew ≡ false → (u : ℕ) → u < l.u → has_bit l.reached u ≡ true → (v : ℕ) → pairs_of l.matrix u v ≡ true → has_bit l.reaching v ≡ true → has_bit l.reaching u ≡ true;
}

abbrev pub decreases-loop-u : goal.decreases-loop-u
decreases-loop-u l = l.matrix.sessions - l.u
