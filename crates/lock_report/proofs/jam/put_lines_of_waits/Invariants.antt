use Rattle.std.proofs.Common.{◌≡◌, ◌++◌, take, string_bytes}
use Rattle.std.specs.List.{flat_map}
use Rattle.lock_report.specs.JamText.{line_of_wait}
use Rattle.lock_report.proofs.jam.put_lines_of_waits.Given as goal

-- The lines of the waits before this one are written.
abbrev pub invariant-loop-told : goal.invariant-loop-told
invariant-loop-told l = string_bytes l.out ≡ string_bytes l.fn.out ++ flat_map line_of_wait (take l.told-index l.waits)
