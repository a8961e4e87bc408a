pub mod Auditing
pub mod Fetching
pub mod Programs
