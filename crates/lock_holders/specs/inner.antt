-- what only private contracts cite
pub mod Columns
pub mod SingleHolder
pub mod Places
