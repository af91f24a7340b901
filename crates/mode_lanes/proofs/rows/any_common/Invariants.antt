use Rattle.std.proofs.Common.{◌≡◌, ◌-◌, ◌≤◌, length, take}
use Rattle.std.specs.Prelude.{bit_and}
use lib.Lanes.{zip2}
use Rattle.mode_lanes.specs.Masks.{union_of}
use Rattle.mode_lanes.proofs.rows.any_common.Given as goal

-- The union of the lanes is the union of the common bits of the words below `at`.
abbrev pub invariant-loop-at : goal.invariant-loop-at
invariant-loop-at l = record {
  within : l.at ≤ length l.other;
  lanes : length l.common ≡ 4;
  common : union_of l.common ≡ union_of (take l.at (zip2 bit_and l.row l.other));
}

-- The words that are left get fewer.
abbrev pub decreases-loop-at : goal.decreases-loop-at
decreases-loop-at l = length l.other - l.at
