pub mod Slabs
pub mod Rounds
pub mod Scheduling
