-- what only private contracts cite
pub mod ChildCounts
pub mod LockLists
