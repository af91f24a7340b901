-- from one clause of a result to another
pub mod Results
-- the log of deadlocks
-- what is counted of victims
pub mod VictimsCounted
-- what a log tells
pub mod DeadlocksTold
-- the cycle that is told of a deadlock
pub mod CyclesTold
-- the queue in which a session waits
pub mod QueuesTold
-- a page of the locks of a session is that of the state, and what it tells
pub mod Pages
-- what pages that are read one after another tell together
pub mod SeveralPages
-- the book
-- the invariant of a book
pub mod BookInvariant
-- the deadlocks of a history with one more entry
pub mod DeadlocksOfHistories
-- as many victims are counted as the history has
pub mod VictimsOfCalls
-- as many sessions wait as there are requests
pub mod WaitersCounted
-- one call more is counted
pub mod CallsCounted
-- a batch, one item further
pub mod Batches
-- the sessions for which one waits, by number
pub mod Blockers
-- the book as a sequential object
pub mod BookHistories
-- whose wait a batch has ended, said of its entries
pub mod EndedInBatches
