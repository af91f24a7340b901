-- What public contracts speak of.
pub mod Fields
pub mod Tests
pub mod Rows
pub mod Entries
pub mod Records
pub mod Files
pub mod Traces
pub mod Histories
pub mod ReadHistories
pub mod HistoryReaders
pub mod Comments
pub mod SkippingComments
pub mod HintTexts
pub mod KeptReaders
-- What only private contracts speak of.
pub mod inner
