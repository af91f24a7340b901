pub mod Runs
pub mod Applied
pub mod examples
