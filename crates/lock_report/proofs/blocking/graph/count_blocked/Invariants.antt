use Rattle.std.proofs.Common.{◌≡◌, ◌≤◌, length}
use Rattle.lock_report.specs.Jam.{blocked_by}
use Rattle.lock_report.proofs.blocking.graph.count_blocked.Given as goal

-- of the sessions so far, those that are blocked are counted
abbrev pub invariant-loop-below : goal.invariant-loop-below
invariant-loop-below l = record { count : l.count ≡ length (blocked_by l.below l.waits l.session); few : l.count ≤ l.below; same : l.rows ≡ l.fn.rows }
