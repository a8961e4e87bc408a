pub mod Halts
pub mod Memory
pub mod MemoryDials
pub mod FakeCaches
