pub mod Running
pub mod Inside
