use Rattle.publication.proofs.Noting.{no-event, more-events, seats-note-none}
use Rattle.publication.proofs.laws.events_happen_when_they_are_noted.Goals as goal

pub returns-clause-noted : goal.returns-clause-noted
returns-clause-noted g c s at put id carried v w act more before after me some number logs grown was now = more-events s at put id carried v w act before after me number logs was now some more grown

pub returns-clause-none : goal.returns-clause-none
returns-clause-none g c s at put id carried v w act before after me number logs same was now = no-event s at put id carried v w act before after me number logs was now same

pub returns-clause-seats : goal.returns-clause-seats
returns-clause-seats g c s t before after r q moved was now = seats-note-none s t before after r q moved was now
