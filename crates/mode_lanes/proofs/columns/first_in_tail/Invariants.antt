use Rattle.std.proofs.Common.{◌≡◌, ℕ, ◌<◌, false, get_or}
use Rattle.mode_lanes.specs.Masks.{meets}
use Rattle.mode_lanes.proofs.columns.first_in_tail.Given as goal

-- No byte below k has a bit of the mask.
abbrev pub invariant-loop-k : goal.invariant-loop-k
invariant-loop-k l = (k : ℕ) → k < l.k → meets l.mask (get_or l.column k 0) ≡ false
