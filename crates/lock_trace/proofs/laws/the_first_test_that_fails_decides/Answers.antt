use Rattle.lock_trace.proofs.TestLaws.{none_iff, fault_iff}
use Rattle.lock_trace.proofs.laws.the_first_test_that_fails_decides.Goals as goal

pub returns-clause-none : goal.returns-clause-none
returns-clause-none c = none_iff

pub returns-clause-fault : goal.returns-clause-fault
returns-clause-fault c = fault_iff
