-- What public contracts cite.
pub mod Sessions
pub mod Closed
pub mod Woken
pub mod Calls
pub mod Turns
pub mod Looks
pub mod Rounds
-- What only private contracts cite.
pub mod inner
