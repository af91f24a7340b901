pub mod Members
pub mod SessionCalls
pub mod Batches
pub mod Ranges
pub mod BitRows
