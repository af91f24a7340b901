-- cells, lockers and waits, below what users of a table see
pub mod Cells
pub mod Tables
pub mod Requests
pub mod Lockers
pub mod Ended
pub mod Blocking
