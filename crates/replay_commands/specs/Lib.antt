pub mod Faults
pub mod Pieces
pub mod Replays
pub mod Written
pub mod StatsText
pub mod Stats
pub mod RowsJudged
pub mod Verdicts
