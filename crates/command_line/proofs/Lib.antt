pub mod Plans
pub mod OptionValues
pub mod Refusals
pub mod Requests
pub mod Percentages
pub mod Durations
pub mod UrlJobs
pub mod Resolves
