-- what is told by the calls of a history, whatever programs make them
pub mod by_calls
pub mod ProgramBoards
pub mod Sessions
pub mod Closed
pub mod HoldsAsTold
pub mod Exclusion
pub mod Ended
pub mod WakeUps
pub mod InTime
pub mod Dump
pub mod Seen
pub mod Weights
pub mod SingleCalls
pub mod ProgramTurns
-- what only private items speak of
pub mod inner
