pub mod GetOptions
pub mod Sites
