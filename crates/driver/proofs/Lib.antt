pub mod Carried
pub mod Collected
pub mod InTurn
pub mod Hired
pub mod Turned
pub mod ManyWork
pub mod Gathered
