pub mod Reading
pub mod PrintableBytes
pub mod HintSpots
pub mod WordLists
