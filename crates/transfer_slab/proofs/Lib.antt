pub mod Slots
pub mod GivenUp
pub mod Rounds
pub mod Scheduling
