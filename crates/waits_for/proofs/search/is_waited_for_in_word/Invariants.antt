use Rattle.std.proofs.Common.{◌≡◌, ℕ, ◌+◌, ◌<◌, ◌⊎◌, false}
use Rattle.std.specs.Int.{bit_at}
use Rattle.waits_for.specs.Pairs.{pairs_of}
use Rattle.waits_for.proofs.search.is_waited_for_in_word.Given as goal

-- A session whose bit isn't left doesn't wait directly for t.
abbrev pub invariant-loop-rest : goal.invariant-loop-rest
invariant-loop-rest l = (i : ℕ) → i < 64 → bit_at l.word i ≡ 1 → (bit_at l.rest i ≡ 1) ⊎ (pairs_of l.matrix (l.first + i) l.t ≡ false)

abbrev pub decreases-loop-rest : goal.decreases-loop-rest
decreases-loop-rest l = l.rest
