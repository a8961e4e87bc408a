pub mod Streams
pub mod Watching
pub mod RisingCounts
pub mod Lines
pub mod Words
