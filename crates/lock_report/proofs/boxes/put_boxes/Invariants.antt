use Rattle.std.proofs.Common.{◌≡◌, ◌++◌, None, drop, string_bytes}
use Rattle.lock_report.specs.LocksDot.{boxes_behind}
use Rattle.lock_report.proofs.boxes.put_boxes.Given as goal

-- With the boxes of the claims from this one on, the text will have all boxes.
abbrev pub invariant-loop-index : goal.invariant-loop-index
invariant-loop-index l = string_bytes l.out ++ boxes_behind l.last (drop l.index l.claims) ≡ string_bytes l.fn.out ++ boxes_behind None l.claims
