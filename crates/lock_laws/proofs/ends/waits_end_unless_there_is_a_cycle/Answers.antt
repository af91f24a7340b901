use Rattle.lock_laws.proofs.Victims.{request-exactly}
use Rattle.lock_laws.proofs.WaitsEnd.{ends-exactly}
use Rattle.lock_laws.proofs.ends.waits_end_unless_there_is_a_cycle.Goals as goal

pub returns-clause-exactly : goal.returns-clause-exactly
returns-clause-exactly c = λ st n below sound numbered unfit. ends-exactly st n below sound unfit numbered

pub returns-clause-request : goal.returns-clause-request
returns-clause-request c = request-exactly
