use Rattle.lock_laws.proofs.Worked.{legal-tries, tries-wait}
use Rattle.lock_laws.proofs.tries.examples_of_tries.Goals as goal

pub returns-clause-legal : goal.returns-clause-legal
returns-clause-legal c = legal-tries

pub returns-clause-waits : goal.returns-clause-waits
returns-clause-waits c = tries-wait
