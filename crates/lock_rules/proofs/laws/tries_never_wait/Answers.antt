use Rattle.lock_rules.proofs.Requests.{try-asks, try-leaves}
use Rattle.lock_rules.proofs.laws.tries_never_wait.Goals as goal

pub returns-clause-granted : goal.returns-clause-granted
returns-clause-granted c = try-asks

pub returns-clause-waits : goal.returns-clause-waits
returns-clause-waits c = try-leaves
