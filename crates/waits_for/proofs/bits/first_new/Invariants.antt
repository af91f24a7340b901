use Rattle.std.proofs.Common.{◌≡◌, ℕ, ◌/◌, ◌<◌, true}
use Rattle.waits_for.specs.inner.Bits.{has_bit}
use Rattle.waits_for.proofs.bits.first_new.Given as goal

-- In the words so far, each bit of both rows is in the third.
abbrev pub invariant-loop-w : goal.invariant-loop-w
invariant-loop-w l = (j : ℕ) → j / 64 < l.w → has_bit l.row j ≡ true → has_bit l.among j ≡ true → has_bit l.known j ≡ true
