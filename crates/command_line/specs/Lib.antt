pub mod CommandLine
pub mod Streams
