pub mod PartsWritten
pub mod Silent
pub mod Streams
