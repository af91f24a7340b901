use Rattle.lock_trace.proofs.EntryTests.{entry_none_iff, entry_fault_iff}
use Rattle.lock_trace.proofs.laws.the_first_test_of_an_entry_that_fails_decides.Goals as goal

pub returns-clause-none : goal.returns-clause-none
returns-clause-none c = entry_none_iff

pub returns-clause-fault : goal.returns-clause-fault
returns-clause-fault c = entry_fault_iff
