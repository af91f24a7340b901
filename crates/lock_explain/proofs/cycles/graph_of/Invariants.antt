use Rattle.std.proofs.Common.{◌≡◌, ℕ, ◌+◌, ◌&&◌, ltb}
use Rattle.waits_for.specs.Pairs.{pairs_of}
use Rattle.lock_rules.specs.Legal.{state_of}
use Rattle.lock_rules.specs.Waits.{waits_for}
use Rattle.lock_explain.specs.Waiting.{waiting_state}
use Rattle.lock_explain.specs.inner.Asked.{claim_of}
use Rattle.lock_explain.proofs.cycles.graph_of.Given as goal

-- the rows of the sessions so far are written
abbrev pub invariant-loop-position : goal.invariant-loop-position
invariant-loop-position l = (l.rows.sessions ≡ l.before.sessions)
    × ((a b : ℕ) → pairs_of l.rows a b ≡ (ltb a l.position && (ltb b l.before.sessions && waits_for (waiting_state (state_of l.before.history) (claim_of l.asked)).table (a + 1) (b + 1))))
