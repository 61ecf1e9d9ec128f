pub mod File
pub mod Marking
