use Rattle.std.proofs.Common.{refl}
use Rattle.lock_rules.proofs.laws.limits_are_as_documented.Goals as goal

pub returns-clause-locks : goal.returns-clause-locks
returns-clause-locks c = refl

pub returns-clause-sessions : goal.returns-clause-sessions
returns-clause-sessions c = refl
