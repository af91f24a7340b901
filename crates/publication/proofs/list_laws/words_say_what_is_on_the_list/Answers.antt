use Rattle.publication.proofs.PublishedRecords.{empty_on, out_off, on_members}
use Rattle.publication.proofs.list_laws.words_say_what_is_on_the_list.Goals as goal

pub returns-clause-empty : goal.returns-clause-empty
returns-clause-empty g c s list j r few is = empty_on s r few list is j

pub returns-clause-out : goal.returns-clause-out
returns-clause-out g c s list j r few is = out_off s r few list is j

pub returns-clause-members : goal.returns-clause-members
returns-clause-members g c s list j r few is = on_members s r few list is j
