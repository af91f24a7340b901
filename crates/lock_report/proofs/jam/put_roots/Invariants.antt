use Rattle.std.proofs.Common.{◌≡◌, ◌++◌, take, string_bytes}
use Rattle.std.specs.List.{flat_map}
use Rattle.lock_report.specs.JamText.{line_of_root}
use Rattle.lock_report.proofs.jam.put_roots.Given as goal

-- The lines of the roots before this one are written.
abbrev pub invariant-loop-root : goal.invariant-loop-root
invariant-loop-root l = string_bytes l.out ≡ string_bytes l.fn.out ++ flat_map line_of_root (take l.root-index l.roots)
