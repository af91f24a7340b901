-- What public contracts speak of.
pub mod Waiting
pub mod Refused
pub mod Cycles
pub mod Endings
pub mod Explanations
pub mod ExplanationText
pub mod ExplanationRows
pub mod ExplanationDot
-- What only private contracts speak of.
pub mod inner
