use Rattle.std.proofs.Common.{◌≡◌, ℕ, ◌-◌, ◌<◌, ◌≤◌, false, length, get_or}
use Rattle.mode_lanes.specs.Masks.{meets}
use Rattle.mode_lanes.proofs.columns.first_meets.Given as goal

-- No byte below `at` has a bit of the mask.
abbrev pub invariant-loop-at : goal.invariant-loop-at
invariant-loop-at l = record {
  within : l.at ≤ length l.column;
  before : (k : ℕ) → k < l.at → meets l.mask (get_or l.column k 0) ≡ false;
}

-- The bytes that are left get fewer.
abbrev pub decreases-loop-at : goal.decreases-loop-at
decreases-loop-at l = length l.column - l.at
