-- what the exports speak of
pub mod Sessions
pub mod Looks
pub mod Tables
pub mod Bounds
pub mod Turns
pub mod Pages
pub mod Dumps
pub mod Offices
-- what only private items speak of
pub mod inner
