pub mod Answered
pub mod Asked
pub mod Desks
pub mod Parts
pub mod Traces
