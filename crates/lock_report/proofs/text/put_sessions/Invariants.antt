use Rattle.std.proofs.Common.{◌≡◌, ◌++◌, take, string_bytes}
use Rattle.std.specs.List.{flat_map}
use Rattle.lock_report.specs.StateText.{session_lines}
use Rattle.lock_report.proofs.text.put_sessions.Given as goal

-- The lines of the sessions before this one are written.
abbrev pub invariant-loop-begun : goal.invariant-loop-begun
invariant-loop-begun l = string_bytes l.out ≡ string_bytes l.fn.out ++ flat_map (session_lines l.sorted) (take l.begun-index l.opens)
