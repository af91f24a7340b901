use Rattle.lock_laws.proofs.GrantOrder.{later-fits, one-place, holders-granted, same-place}
use Rattle.lock_laws.proofs.grants.later_grants_are_compatible_with_earlier_ones.Goals as goal

pub returns-clause-granted : goal.returns-clause-granted
returns-clause-granted c = holders-granted

pub returns-clause-later : goal.returns-clause-later
returns-clause-later c = later-fits

pub returns-clause-same : goal.returns-clause-same
returns-clause-same c = same-place

pub returns-clause-once : goal.returns-clause-once
returns-clause-once c = one-place
