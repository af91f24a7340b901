pub mod Unions
pub mod Written
pub mod Hits
