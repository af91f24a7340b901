use Rattle.std.proofs.Common.{◌≡◌}
use Rattle.lock_rules.specs.Legal.{state_of}
use Rattle.lock_explain.specs.Endings.{granted_requests}
use Rattle.lock_explain.proofs.endings.granted_requests.Given as goal

-- the granted requests of the sessions so far are listed
abbrev pub invariant-loop-position : goal.invariant-loop-position
invariant-loop-position l = l.granted.items ≡ granted_requests l.position l.entry.session (state_of l.before.history) (state_of l.after.history)
