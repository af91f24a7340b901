use Rattle.std.proofs.Common.{◌≡◌, ◌++◌, string_bytes}
use Rattle.lock_report.specs.LocksDot.{places_of}
use Rattle.lock_report.proofs.rows_of_boxes.put_places.Given as goal

-- The boxes before this index are placed.
abbrev pub invariant-loop-index : goal.invariant-loop-index
invariant-loop-index l = string_bytes l.out ≡ string_bytes l.fn.out ++ places_of l.boxed l.index
