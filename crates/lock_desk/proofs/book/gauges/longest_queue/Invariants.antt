use Rattle.std.proofs.Common.{◌≡◌}
use Rattle.lock_rules.specs.Legal.{state_of}
use Rattle.lock_desk.specs.Gauges.{longest_up_to}
use Rattle.lock_desk.proofs.book.gauges.longest_queue.Given as goal

-- the queues in which the sessions so far wait are looked at
abbrev pub invariant-loop-before : goal.invariant-loop-before
invariant-loop-before l = l.longest ≡ longest_up_to (state_of l.book.history).table l.before
