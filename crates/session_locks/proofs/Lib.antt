-- lists of resources: one more, one less
pub mod ResourceLists
-- resources brought into their order
pub mod InOrder
-- the resources of a list that pass a test
pub mod FilteredResources
-- how many children of each lock are held
pub mod ChildCounts
-- indexed locks and recent locks
pub mod LockLists
