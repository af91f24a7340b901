use Rattle.std.proofs.Common.{◌≡◌, take}
use Rattle.mode_lanes.specs.Masks.{union_of}
use Rattle.mode_lanes.proofs.columns.union_of_tail.Given as goal

-- The union so far is the union of the bytes before this one.
abbrev pub invariant-loop-byte : goal.invariant-loop-byte
invariant-loop-byte l = l.union ≡ union_of (take l.byte-index l.tail)
