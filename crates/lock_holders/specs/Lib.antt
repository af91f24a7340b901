-- what public contracts cite
pub mod SessionModes
pub mod Holders
pub mod Woken
-- what only private contracts cite
pub mod inner
