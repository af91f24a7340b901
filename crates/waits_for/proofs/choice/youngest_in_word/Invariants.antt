use Rattle.std.proofs.Common.{ℕ, ◌<◌, Bool, length}
use Rattle.std.specs.Option.{ForSome}
use Rattle.waits_for.specs.inner.Search.{IsBestBelow, IsTestOf}
use Rattle.waits_for.proofs.Youngest.{IsInWord}
use Rattle.waits_for.proofs.choice.youngest_in_word.Given as goal

-- The best so far is the best of the positions whose bits aren't left.
abbrev pub invariant-loop-rest : goal.invariant-loop-rest
invariant-loop-rest l = record {
  below : ForSome l.best (λ v. v < length l.ages);
  in_word : (test : ℕ → Bool) → IsTestOf test l.word l.first (length l.ages) → IsBestBelow test l.ages l.first l.fn.best → IsInWord test l.ages l.word l.first l.rest l.best;
}

abbrev pub decreases-loop-rest : goal.decreases-loop-rest
decreases-loop-rest l = l.rest
