-- what public contracts cite
pub mod Resources
pub mod LockLists
-- what only private contracts cite
pub mod inner
