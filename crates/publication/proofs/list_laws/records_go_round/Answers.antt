use Rattle.publication.proofs.OwnSteps.{record_moves}
use Rattle.publication.proofs.PublishedRecords.{seats_publish}
use Rattle.publication.proofs.list_laws.records_go_round.Goals as goal

pub returns-clause-steps : goal.returns-clause-steps
returns-clause-steps g c name s t j x y r q step some named = record_moves name s t r q step j some named x y

pub returns-clause-seats : goal.returns-clause-seats
returns-clause-seats g c s t j x y r q move some named = seats_publish s t r q move j some named x y
