use Rattle.std.proofs.Common.{◌≡◌, ℕ, ◌+◌, Bool, length}
use Rattle.waits_for.specs.inner.Bits.{HasSetMet}
use Rattle.waits_for.proofs.bits.set_chunk.Given as goal

-- The bits of the numbers before the chunk, and of those before this index of it, are set as the codes say.
abbrev pub invariant-loop-k : goal.invariant-loop-k
invariant-loop-k l = record {
  room : length l.words ≡ length l.fn.words;
  bits : (was : ℕ → Bool) → HasSetMet was l.from l.mask l.at l.numbers l.codes l.fn.words → HasSetMet was l.from l.mask (l.at + l.k) l.numbers l.codes l.words;
}
