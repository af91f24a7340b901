use Rattle.std.proofs.Common.{List, ℕ, map, take, Bor}
use Rattle.lock_report.specs.ReadStates.{rows_of}
use Rattle.lock_report.specs.inner.ReadPrefixes.{AreOnlyRows, IsKept}
use Rattle.lock_report.proofs.reading.state.rows_in_lines.Given as goal

-- the lists have the rows of the lines so far, and no other rows have those lines
abbrev pub invariant-loop-index : goal.invariant-loop-index
invariant-loop-index l = AreOnlyRows l.sessions (take l.index (map (λ (line : Bor (List ℕ)). line.now) l.lines)) (rows_of l.reading.lists) × IsKept l.reading
