pub mod Dials
pub mod Hosts
pub mod Pending
pub mod Sockets
pub mod Streams
pub mod SystemAnswers
