pub mod Open
pub mod Saving
