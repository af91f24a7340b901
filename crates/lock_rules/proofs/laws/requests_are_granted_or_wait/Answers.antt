use Rattle.lock_rules.proofs.Requests.{lock-asks, convert-asks, lock-converts}
use Rattle.lock_rules.proofs.laws.requests_are_granted_or_wait.Goals as goal

pub returns-clause-lock : goal.returns-clause-lock
returns-clause-lock c = lock-asks

pub returns-clause-convert : goal.returns-clause-convert
returns-clause-convert c = convert-asks

pub returns-clause-same : goal.returns-clause-same
returns-clause-same c = lock-converts
