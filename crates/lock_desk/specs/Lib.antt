-- what public contracts cite
pub mod BookView
pub mod Batches
pub mod Paths
pub mod Queries
pub mod Pages
pub mod Deadlocks
pub mod Counts
pub mod Gauges
pub mod BookLaws
-- what only private contracts cite
pub mod inner
