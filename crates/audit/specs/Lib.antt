pub mod Endings
pub mod Tables
pub mod Events
pub mod Outcomes
pub mod Audits
pub mod Laws
