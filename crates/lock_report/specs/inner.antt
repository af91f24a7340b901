pub mod BySession
pub mod ReadFields
pub mod ReadPrefixes
pub mod Blocking
pub mod Contended
pub mod Graph
