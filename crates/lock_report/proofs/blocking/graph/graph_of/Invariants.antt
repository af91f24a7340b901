use Rattle.std.proofs.Common.{◌≡◌, ℕ, ◌+◌, take}
use Rattle.waits_for.specs.Pairs.{pairs_of}
use Rattle.lock_report.specs.Jam.{does_wait}
use Rattle.lock_report.proofs.blocking.graph.graph_of.Given as goal

-- the edges of the waits so far are written
abbrev pub invariant-loop-wait : goal.invariant-loop-wait
invariant-loop-wait l = (l.rows.sessions ≡ l.sessions) × ((a b : ℕ) → pairs_of l.rows a b ≡ does_wait (take l.wait-index l.waits) (a + 1) (b + 1))
