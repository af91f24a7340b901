pub mod Calls
pub mod Runs
pub mod Streams
pub mod Workers
