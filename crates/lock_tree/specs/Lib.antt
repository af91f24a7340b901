pub mod Paths
pub mod Text
pub mod Numerals
pub mod Faults
pub mod Readings
pub mod Fields
pub mod Hashes
-- what only private contracts speak of
pub mod inner
