use Rattle.publication.proofs.PublishedRecords.{is_something, is_one_thing}
use Rattle.publication.proofs.list_laws.records_hold_what_is_published.Goals as goal

pub returns-clause-some : goal.returns-clause-some
returns-clause-some g c s j r some small = is_something s j r some small

pub returns-clause-one : goal.returns-clause-one
returns-clause-one g c = is_one_thing _
