pub mod Bits
pub mod CircleSearch
pub mod Search
pub mod CycleMeeting
pub mod CycleRoom
