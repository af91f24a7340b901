use Rattle.lock_laws.proofs.TryTests.{try-refused, try-same, try-converts}
use Rattle.lock_laws.proofs.tries.tries_are_locks_that_do_not_wait.Goals as goal

pub returns-clause-refused : goal.returns-clause-refused
returns-clause-refused c = try-refused

pub returns-clause-same : goal.returns-clause-same
returns-clause-same c = try-same

pub returns-clause-conversions : goal.returns-clause-conversions
returns-clause-conversions c = try-converts
