-- cells
-- the queue of one resource: a request is added
pub mod WaitQueues
-- one resource: a grant, a request, a release
pub mod ResourceViews
-- the cells after a change of one of them
pub mod CellTable
-- the list of resources beside the list of cells
pub mod CellEntries
-- places: the index of the cell of a resource
pub mod Places
-- a lock or a request is given up in its cell
pub mod CellGivesUp
-- lockers
-- a grant in the lockers
pub mod LockerStandings
-- the locker of a session whose request is granted
pub mod LockerGrant
-- the lock table: each operation keeps cells and lockers in agreement
-- agreement of lockers and cells after a change
pub mod Agreement
-- which sessions are listed because their wait has ended
pub mod EndedWaits
-- one grant of a promotion, in the cell and in the locker
pub mod Promotions
-- a session requests a resource
pub mod Asking
-- a session gives up a lock or its request
pub mod GivingUp
-- a session releases all its locks
pub mod GivingAllBack
-- a transaction begins, is cancelled, is doomed, ends
pub mod BeginAndEnd
-- from one clause of a result to another
pub mod Results
-- refinement: the lock table represents a state of the sequential lock manager
-- the view of each resource of a table of the rules: grants and promotions
pub mod TableViews
-- a session that holds a resource below another holds a child of the upper one
pub mod Children
-- how many locks a session holds, and whether it waits
pub mod LockCounts
-- a session leaves one resource
pub mod LeavingAResource
-- the views after a release
pub mod AfterRelease
-- the views after a request, and after the end of a transaction
pub mod AfterStep
-- tests and effects of the lock table are those of the state
pub mod Simulation
-- deadlocks
-- what blocks the sessions that wait for one resource
pub mod WritingWaits
-- the row of a request, from that of an earlier request for the same mode
pub mod RequestsAlike
-- one session among the holders and in the queue
pub mod QueuedSessions
-- the rows lose single edges: a lock or a request is given up
pub mod NarrowingWaits
-- the rows lose the edges to requests that are granted
pub mod GrantedWaits
-- the rows after a request
pub mod RowsAfterAsking
-- each session that holds or waits has a locker
pub mod SessionsInRange
-- each operation keeps the waits-for graph current
pub mod RowsOfTheTable
-- the edges of the waits-for graph are the waits of the state
pub mod WaitsOfTheState
-- the victim that is found is the victim of the state
pub mod VictimRounds
-- the victims that are chosen on a copy of the graph are no more than those of the state
pub mod VictimsAhead
-- no more requests wait than there are sessions
pub mod FewRequests
-- the deadlocks that are noted while victims are chosen
pub mod DeadlockRounds
-- what a lock table tells of its locks and requests is what the state has
pub mod Listings
-- the deadlocks of a call
pub mod DeadlocksOfCalls
-- a lock or a try, by its tests
pub mod LockCalls
