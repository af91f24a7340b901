use Rattle.publication.proofs.PublishedRecords.{meets_listed, stays_listed, served_further}
use Rattle.publication.proofs.list_laws.listed_calls_are_met_until_collected.Goals as goal

pub returns-clause-met : goal.returns-clause-met
returns-clause-met g c s k j r few has first = meets_listed s k r few has first j

pub returns-clause-stays : goal.returns-clause-stays
returns-clause-stays g c name s t j step = stays_listed name s t step j

pub returns-clause-served : goal.returns-clause-served
returns-clause-served g c name s t j x y r q step other some named = served_further name s t r q step j other some named x y
