use Rattle.std.proofs.Common.{◌≡◌, ℕ, true, length}
use Rattle.waits_for.specs.Pairs.{pairs_of}
use Rattle.waits_for.specs.inner.Bits.{has_bit, words_for, unset_below}
use Rattle.waits_for.specs.inner.Search.{IsTo}
use Rattle.waits_for.proofs.search.add_all_predecessors.Given as goal

-- All members of the set are t or reach it, and t is a member.
abbrev pub invariant-loop : goal.invariant-loop
invariant-loop l = record {
  room : length l.reaching ≡ words_for l.matrix.sessions;
  own : has_bit l.reaching l.t ≡ true;
  lead : (u : ℕ) → has_bit l.reaching u ≡ true → IsTo (pairs_of l.matrix) l.t u;
}

-- Each pass but the last adds a session.
abbrev pub decreases-loop : goal.decreases-loop
decreases-loop l = unset_below l.matrix.sessions l.reaching
