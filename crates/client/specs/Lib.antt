pub mod Clients
pub mod Fetching
pub mod Lines
pub mod FileLines
pub mod LookedUp
