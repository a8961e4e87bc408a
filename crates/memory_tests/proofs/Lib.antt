pub mod DeskHost
pub mod Homes
