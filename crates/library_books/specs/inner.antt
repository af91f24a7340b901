pub mod Held
pub mod Items
