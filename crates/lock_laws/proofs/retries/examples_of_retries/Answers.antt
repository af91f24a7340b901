use Rattle.lock_laws.proofs.Oldest.{legal-restart, restart-spared, restart-younger, legal-begin, begin-again}
use Rattle.lock_laws.proofs.retries.examples_of_retries.Goals as goal

pub returns-clause-restart : goal.returns-clause-restart
returns-clause-restart c = legal-restart

pub returns-clause-spared : goal.returns-clause-spared
returns-clause-spared c = restart-spared

pub returns-clause-younger : goal.returns-clause-younger
returns-clause-younger c = restart-younger

pub returns-clause-begin : goal.returns-clause-begin
returns-clause-begin c = legal-begin

pub returns-clause-again : goal.returns-clause-again
returns-clause-again c = begin-again
