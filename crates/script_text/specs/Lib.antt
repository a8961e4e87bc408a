pub mod Grammar
pub mod Site
pub mod Printing
pub mod Faults
