use Rattle.publication.proofs.ListLaws.{found, found_free, not_found}
use Rattle.publication.proofs.list_laws.listed_calls_are_on_the_list.Goals as goal

pub returns-clause-listed : goal.returns-clause-listed
returns-clause-listed g c s list j r few is = found s r few list is j

pub returns-clause-unlocked : goal.returns-clause-unlocked
returns-clause-unlocked g c s list j r few is free = found_free s r few list is free j

pub returns-clause-unlisted : goal.returns-clause-unlisted
returns-clause-unlisted g c s list j r few is = not_found s r few list is j
