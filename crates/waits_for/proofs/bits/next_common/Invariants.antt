use Rattle.std.proofs.Common.{◌≡◌, ℕ, ◌-◌, ◌/◌, ◌<◌, ◌≤◌, true, false, length}
use Rattle.waits_for.specs.inner.Bits.{has_bit}
use Rattle.waits_for.proofs.bits.next_common.Given as goal

-- In the words so far, no bit from `from` on is common.
abbrev pub invariant-loop-at : goal.invariant-loop-at
invariant-loop-at l = record {
  behind : l.from / 64 < l.at;
  within : l.at ≤ length l.row;
  apart : (j : ℕ) → l.from ≤ j → j / 64 < l.at → has_bit l.row j ≡ true → has_bit l.other j ≡ false;
}

abbrev pub decreases-loop-at : goal.decreases-loop-at
decreases-loop-at l = length l.row - l.at

abbrev pub invariant-loop-w : goal.invariant-loop-w
invariant-loop-w l = (j : ℕ) → l.from ≤ j → j / 64 < l.w → has_bit l.row j ≡ true → has_bit l.other j ≡ false
