pub mod Bases
pub mod Faults
