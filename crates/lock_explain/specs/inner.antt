pub mod Asked
pub mod Ahead
pub mod Graph
pub mod Holders
pub mod NewVictims
pub mod Served
