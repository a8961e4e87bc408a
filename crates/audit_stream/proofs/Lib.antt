pub mod CompleteLines
pub mod Readings
pub mod Writings
pub mod Pieces
pub mod LegalScripts
