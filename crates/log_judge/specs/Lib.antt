pub mod Rules
pub mod Waiters
pub mod Held
pub mod Tables
pub mod AllHosts
pub mod Laws
