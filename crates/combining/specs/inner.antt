pub mod Passes
pub mod Ages
pub mod OwnCalls
pub mod EndedList
pub mod BoundedPasses
