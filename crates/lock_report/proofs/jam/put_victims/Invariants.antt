use Rattle.std.proofs.Common.{◌≡◌, ◌++◌, take, string_bytes}
use Rattle.std.specs.List.{flat_map}
use Rattle.lock_report.specs.JamText.{line_if_victim}
use Rattle.lock_report.proofs.jam.put_victims.Given as goal

-- The lines of the victims among the transactions before this one are written.
abbrev pub invariant-loop-begun : goal.invariant-loop-begun
invariant-loop-begun l = string_bytes l.out ≡ string_bytes l.fn.out ++ flat_map line_if_victim (take l.begun-index l.opens)
