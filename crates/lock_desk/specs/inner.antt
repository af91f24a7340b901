-- what only private contracts cite
pub mod WaitCounts
pub mod Counting
pub mod Noting
pub mod NotedNothing
pub mod Served
pub mod Invariant
