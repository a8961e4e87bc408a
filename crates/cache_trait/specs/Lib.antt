pub mod CacheCalls
pub mod Homes
