pub mod Ask
pub mod AskShow
pub mod Gives
pub mod Streams
