use Rattle.lock_office.proofs.by_calls.HoldsAsTold.{begins, begins-later, begins-meanwhile, begins-by-next-call, goes-on, asks-on, comes-back, ends-asked, ends}
use Rattle.lock_office.proofs.told_laws.answers_tell_when_a_lock_is_held.Goals as goal

pub returns-clause-granted : goal.returns-clause-granted
returns-clause-granted c = begins

pub returns-clause-granted_later : goal.returns-clause-granted_later
returns-clause-granted_later c = begins-later

pub returns-clause-granted_meanwhile : goal.returns-clause-granted_meanwhile
returns-clause-granted_meanwhile c = begins-meanwhile

pub returns-clause-granted_by_next_call : goal.returns-clause-granted_by_next_call
returns-clause-granted_by_next_call c = begins-by-next-call

pub returns-clause-stays : goal.returns-clause-stays
returns-clause-stays c = goes-on

pub returns-clause-asks_on : goal.returns-clause-asks_on
returns-clause-asks_on c = asks-on

pub returns-clause-asked_back : goal.returns-clause-asked_back
returns-clause-asked_back c = ends-asked

pub returns-clause-given_back : goal.returns-clause-given_back
returns-clause-given_back c = ends

pub returns-clause-back : goal.returns-clause-back
returns-clause-back c = comes-back
