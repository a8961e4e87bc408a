pub mod Lines
pub mod Worked
pub mod LogLines
pub mod Asking
pub mod HostUses
pub mod HostLines
