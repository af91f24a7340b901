use Rattle.publication.proofs.ListLaws.{gap, first_without, first_with, first_stays, seats_keep}
use Rattle.publication.proofs.list_laws.the_first_record_is_never_taken_off.Goals as goal

pub returns-clause-without : goal.returns-clause-without
returns-clause-without g c = first_without

pub returns-clause-with_behind : goal.returns-clause-with_behind
returns-clause-with_behind g c = first_with

pub returns-clause-unlinked : goal.returns-clause-unlinked
returns-clause-unlinked g c s list k r few is = gap s r few list is k

pub returns-clause-steps : goal.returns-clause-steps
returns-clause-steps g c name s t list later r q few is then_is step writes = first_stays name s t r q step few list later is then_is writes

pub returns-clause-seats : goal.returns-clause-seats
returns-clause-seats g c = seats_keep
