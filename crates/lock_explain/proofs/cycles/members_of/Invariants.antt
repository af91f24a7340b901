use Rattle.std.proofs.Common.{◌≡◌}
use Rattle.lock_rules.specs.Legal.{state_of}
use Rattle.lock_explain.specs.Cycles.{cycle_of}
use Rattle.lock_explain.specs.Waiting.{waiting_state}
use Rattle.lock_explain.specs.inner.Asked.{claim_of}
use Rattle.lock_explain.proofs.cycles.members_of.Given as goal

-- of the sessions so far, those on a cycle are listed
abbrev pub invariant-loop-position : goal.invariant-loop-position
invariant-loop-position l = (l.rows ≡ l.fn.rows) × (l.members.items ≡ cycle_of l.position (waiting_state (state_of l.before.history) (claim_of l.asked)) l.asked.session)
