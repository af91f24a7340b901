pub mod Order
pub mod Compatibility
pub mod Codes
