pub mod Booked
pub mod LastTries
