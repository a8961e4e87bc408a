pub mod Answered
pub mod StillHome
