-- what contracts speak of
pub mod Numbers
pub mod Calls
pub mod Claims
pub mod Batches
pub mod Programs
pub mod Deadlocks
pub mod Counts
pub mod Behind
pub mod inner
