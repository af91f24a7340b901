use Rattle.std.proofs.Common.{◌≡◌, ℕ, ◌-◌, ◌<◌, ◌≤◌, if◌then◌else◌, length, get_or}
use Rattle.mode_lanes.specs.Masks.{meets}
use Rattle.mode_lanes.proofs.columns.mark_meets.Given as goal

-- The marks below `at` are written.
abbrev pub invariant-loop-at : goal.invariant-loop-at
invariant-loop-at l = record {
  within : l.at ≤ length l.column;
  room : length l.marks ≡ length l.column;
  marks : (k : ℕ) → k < l.at → get_or l.marks k 0 ≡ (if meets l.mask (get_or l.column k 0) then 1 else 0);
}

-- The bytes that are left get fewer.
abbrev pub decreases-loop-at : goal.decreases-loop-at
decreases-loop-at l = length l.column - l.at

-- The marks below k are written.
abbrev pub invariant-loop-k : goal.invariant-loop-k
invariant-loop-k l = record {
  room : length l.marks ≡ length l.column;
  marks : (k : ℕ) → k < l.k → get_or l.marks k 0 ≡ (if meets l.mask (get_or l.column k 0) then 1 else 0);
}
