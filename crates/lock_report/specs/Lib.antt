-- What public contracts speak of.
pub mod Claims
pub mod Nodes
pub mod Answers
pub mod JamText
pub mod StateText
pub mod StateRows
pub mod Dot
pub mod LocksDot
pub mod ReadRows
pub mod ReadStates
pub mod Blockers
pub mod Blocking
pub mod Jam
pub mod Shown
-- What only private contracts speak of.
pub mod inner
