use Rattle.std.proofs.Common.{◌≡◌}
use Rattle.lock_rules.specs.Legal.{state_of}
use Rattle.lock_explain.specs.inner.NewVictims.{new_victims}
use Rattle.lock_explain.proofs.endings.new_victims_by_session.Given as goal

-- the new victims of the sessions so far are listed
abbrev pub invariant-loop-position : goal.invariant-loop-position
invariant-loop-position l = l.victims.items ≡ new_victims l.position (state_of l.before.history) (state_of l.after.history)
