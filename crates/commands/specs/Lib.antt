pub mod Printable
pub mod Urls
pub mod Given
pub mod LoadRanges
pub mod Numbering
pub mod LoadJob
pub mod Statuses
