use Rattle.lock_laws.proofs.Worked.{first-granted, later-granted}
use Rattle.lock_laws.proofs.grants.examples_of_grants.Goals as goal

pub returns-clause-first : goal.returns-clause-first
returns-clause-first c = first-granted

pub returns-clause-later : goal.returns-clause-later
returns-clause-later c = later-granted
