pub mod Runs
pub mod Applied
