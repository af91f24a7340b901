use Rattle.std.proofs.Common.{◌≡◌, ℕ, ◌<◌, get_or}
use Rattle.std.specs.Prelude.{bit_and, bit_xor}
use Rattle.waits_for.proofs.bits.set_without.Given as goal

-- The words so far are made.
abbrev pub invariant-loop-k : goal.invariant-loop-k
invariant-loop-k l = (w : ℕ) → w < l.k → get_or l.row w 0 ≡ bit_xor (get_or l.all w 0) (bit_and (get_or l.all w 0) (get_or l.other w 0))
