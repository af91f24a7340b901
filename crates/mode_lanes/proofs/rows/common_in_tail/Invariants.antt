use Rattle.std.proofs.Common.{◌≡◌, take}
use Rattle.std.specs.Prelude.{bit_and}
use lib.Lanes.{zip2}
use Rattle.mode_lanes.specs.Masks.{union_of}
use Rattle.mode_lanes.proofs.rows.common_in_tail.Given as goal

-- The common bits so far are the common bits of the words below k.
abbrev pub invariant-loop-k : goal.invariant-loop-k
invariant-loop-k l = l.common ≡ union_of (take l.k (zip2 bit_and l.row l.other))
