pub mod Causes
pub mod Placed
pub mod Sessions
pub mod Runs
pub mod Pushes
pub mod Waits
pub mod GoingOn
