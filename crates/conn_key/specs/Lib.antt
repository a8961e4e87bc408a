pub mod Index
pub mod Site
pub mod Sites
pub mod Target
pub mod Hosts
pub mod Giving
pub mod Laws
