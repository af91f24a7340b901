-- what public contracts cite
pub mod Starts
pub mod Calls
pub mod Fits
pub mod Answers
pub mod Nothing
-- what only private contracts cite
pub mod inner
