pub mod Handles
pub mod ListKinds
pub mod Turns
