use Rattle.lock_rules.proofs.CountBalance.{requests-answered, waits-end-once}
use Rattle.lock_rules.proofs.count_laws.requests_and_waits_add_up.Goals as goal

pub returns-clause-requests : goal.returns-clause-requests
returns-clause-requests c = requests-answered

pub returns-clause-waits : goal.returns-clause-waits
returns-clause-waits c = waits-end-once
