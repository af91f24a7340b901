use Rattle.std.proofs.Common.{◌≡◌, ◌-◌, ◌≤◌, length}
use Rattle.waits_for.specs.inner.Bits.{has_bit, HasSetMet}
use Rattle.waits_for.proofs.bits.set_met.Given as goal

-- The bits of the numbers before the next chunk are set as the codes say.
abbrev pub invariant-loop-at : goal.invariant-loop-at
invariant-loop-at l = record {
  room : length l.words ≡ length l.fn.words;
  within : l.at ≤ length l.numbers;
  bits : HasSetMet (has_bit l.fn.words) l.from l.mask l.at l.numbers l.codes l.words;
}

-- The bits of the numbers before this index are set as the codes say.
abbrev pub invariant-loop-index : goal.invariant-loop-index
invariant-loop-index l = record {
  room : length l.words ≡ length l.fn.words;
  bits : HasSetMet (has_bit l.fn.words) l.from l.mask l.index l.numbers l.codes l.words;
}

-- The numbers that are left.
abbrev pub decreases-loop-at : goal.decreases-loop-at
decreases-loop-at l = length l.numbers - l.at
