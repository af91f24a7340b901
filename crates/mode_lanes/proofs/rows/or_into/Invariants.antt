use Rattle.std.proofs.Common.{◌≡◌, ◌-◌, ◌≤◌, ◌↔◌, length}
use Rattle.std.specs.Prelude.{bit_or}
use Rattle.mode_lanes.specs.Masks.{union_of}
use Rattle.mode_lanes.proofs.Written.{WrittenBelow, AddsNothingBelow}
use Rattle.mode_lanes.proofs.rows.or_into.Given as goal

-- The words below `at` are written, and a change was noted exactly if one of them has changed.
abbrev pub invariant-loop-at : goal.invariant-loop-at
invariant-loop-at l = record {
  within : l.at ≤ length l.other;
  lanes : length l.changed ≡ 4;
  written : WrittenBelow bit_or l.at l.fn.row l.other l.row;
  changes : (union_of l.changed ≡ 0) ↔ AddsNothingBelow l.at l.fn.row l.other;
}

-- The words that are left get fewer.
abbrev pub decreases-loop-at : goal.decreases-loop-at
decreases-loop-at l = length l.other - l.at

-- The words below k are written, and a change was noted exactly if one of them has changed.
abbrev pub invariant-loop-k : goal.invariant-loop-k
invariant-loop-k l = record {
  written : WrittenBelow bit_or l.k l.fn.row l.other l.row;
  changes : (l.changes ≡ 0) ↔ AddsNothingBelow l.k l.fn.row l.other;
}
