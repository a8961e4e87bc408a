pub mod Streaming
pub mod Splits
pub mod LineSplits
pub mod Numbers
