use Rattle.std.proofs.Common.{◌*◌, ◌<◌, ◌&&◌, length}
use Rattle.std.specs.Prelude.{nat_lt}
use Rattle.std.specs.Option.{ForSome}
use Rattle.waits_for.specs.inner.Bits.{has_bit}
use Rattle.waits_for.specs.inner.Search.{IsBestBelow}
use Rattle.waits_for.proofs.choice.youngest_in.Given as goal

-- The best so far is the best of the words so far.
abbrev pub invariant-loop-w : goal.invariant-loop-w
invariant-loop-w l = record {
  below : ForSome l.best (λ v. v < length l.ages);
  so_far : IsBestBelow (λ u. nat_lt u (length l.ages) && has_bit l.set u) l.ages (l.w * 64) l.best;
}
