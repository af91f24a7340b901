use Rattle.lock_laws.proofs.Worked.{legal-behind, behind-closed, behind-beside, behind-victim, behind-spared}
use Rattle.lock_laws.proofs.cycles.examples_of_cycles.Goals as goal

pub returns-clause-legal : goal.returns-clause-legal
returns-clause-legal c = legal-behind

pub returns-clause-closed : goal.returns-clause-closed
returns-clause-closed c = behind-closed

pub returns-clause-beside : goal.returns-clause-beside
returns-clause-beside c = behind-beside

pub returns-clause-victim : goal.returns-clause-victim
returns-clause-victim c = behind-victim

pub returns-clause-spared : goal.returns-clause-spared
returns-clause-spared c = behind-spared
