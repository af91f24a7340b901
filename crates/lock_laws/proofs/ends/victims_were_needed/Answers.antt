use Rattle.lock_laws.proofs.FromLaws.{one-once}
use Rattle.lock_laws.proofs.Victims.{victim-needed, request-needs, request-chooses}
use Rattle.lock_laws.proofs.ends.victims_were_needed.Goals as goal

pub returns-clause-needed : goal.returns-clause-needed
returns-clause-needed c = λ st n s v vs last below one. victim-needed st n s v vs last below (one-once st one)

pub returns-clause-exactly : goal.returns-clause-exactly
returns-clause-exactly c = λ es s call r k vs last b. request-needs es s call r k b vs last

pub returns-clause-chosen : goal.returns-clause-chosen
returns-clause-chosen c = request-chooses
