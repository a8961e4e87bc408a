pub mod Due
pub mod Calls
pub mod Slots
pub mod TokenNumbers
pub mod Readers
