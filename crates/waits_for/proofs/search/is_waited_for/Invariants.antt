use Rattle.std.proofs.Common.{◌≡◌, ℕ, ◌/◌, ◌<◌, false}
use Rattle.waits_for.specs.Pairs.{pairs_of}
use Rattle.waits_for.proofs.search.is_waited_for.Given as goal

-- No session of the words so far waits directly for t.
abbrev pub invariant-loop-w : goal.invariant-loop-w
invariant-loop-w l = (u : ℕ) → u / 64 < l.w → pairs_of l.matrix u l.t ≡ false
