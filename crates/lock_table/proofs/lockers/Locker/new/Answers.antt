use Rattle.std.proofs.Common.{sym, subst}
use Rattle.session_locks.specs.Resources.{AreApart}
use Rattle.lock_table.proofs.lockers.Locker.new.Goals as goal

pub invariant_of-result-clause-apart : goal.invariant_of-result-clause-apart
invariant_of-result-clause-apart c = subst AreApart (sym c.new.ensures) tt
