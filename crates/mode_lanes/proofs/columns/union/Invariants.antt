use Rattle.std.proofs.Common.{◌≡◌, ◌-◌, ◌≤◌, length, take}
use Rattle.mode_lanes.specs.Masks.{union_of}
use Rattle.mode_lanes.proofs.columns.union.Given as goal

-- The union of the lanes is the union of the bytes below `at`.
abbrev pub invariant-loop-at : goal.invariant-loop-at
invariant-loop-at l = record {
  within : l.at ≤ length l.column;
  lanes : length l.all ≡ 16;
  union : union_of l.all ≡ union_of (take l.at l.column);
}

-- The bytes that are left get fewer.
abbrev pub decreases-loop-at : goal.decreases-loop-at
decreases-loop-at l = length l.column - l.at
