use Rattle.std.proofs.Common.{◌≡◌, ◌≤◌, ◌*◌}
use Rattle.lock_rules.specs.Legal.{state_of}
use Rattle.lock_desk.specs.Gauges.{locks_up_to}
use Rattle.lock_desk.proofs.book.gauges.count_locks.Given as goal

-- the locks of the sessions so far are counted
abbrev pub invariant-loop-before : goal.invariant-loop-before
invariant-loop-before l = record { is : l.locks ≡ locks_up_to (state_of l.book.history).table l.before; few : l.locks ≤ l.before * 4096 }
