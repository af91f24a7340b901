use Rattle.publication.proofs.RealTime.{begins, behind-all, in-time}
use Rattle.publication.proofs.laws.calls_stand_in_the_order_of_time.Goals as goal

pub returns-clause-grows : goal.returns-clause-grows
returns-clause-grows g c s t r leads = begins r leads

pub returns-clause-in_time : goal.returns-clause-in_time
returns-clause-in_time g c = in-time

pub returns-clause-behind : goal.returns-clause-behind
returns-clause-behind g c = behind-all
