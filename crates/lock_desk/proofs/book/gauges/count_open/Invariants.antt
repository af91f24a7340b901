use Rattle.std.proofs.Common.{◌≡◌, ◌≤◌}
use Rattle.lock_rules.specs.Legal.{state_of}
use Rattle.lock_desk.specs.Gauges.{open_up_to}
use Rattle.lock_desk.proofs.book.gauges.count_open.Given as goal

-- the open transactions of the sessions so far are counted
abbrev pub invariant-loop-before : goal.invariant-loop-before
invariant-loop-before l = record { is : l.open ≡ open_up_to (state_of l.book.history) l.before; few : l.open ≤ l.before }
