use Rattle.lock_laws.proofs.Granted.{history-grants}
use Rattle.lock_laws.proofs.WaitsEnd.{history-ends, history-everybody}
use Rattle.lock_laws.proofs.ends.waits_end.Goals as goal

pub returns-clause-waits : goal.returns-clause-waits
returns-clause-waits c = history-ends

pub returns-clause-everybody : goal.returns-clause-everybody
returns-clause-everybody c = history-everybody

pub returns-clause-granted : goal.returns-clause-granted
returns-clause-granted c = history-grants
