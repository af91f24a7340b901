pub mod Every
pub mod Compatibility
pub mod Codes
pub mod Order
pub mod Columns
pub mod Needs
pub mod Lower
pub mod Names
