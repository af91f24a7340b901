pub mod Tickets
pub mod Closing
pub mod Inside
