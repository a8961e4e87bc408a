pub mod Tells
pub mod Reading
pub mod Writing
pub mod Audits
pub mod Runs
pub mod Scripts
