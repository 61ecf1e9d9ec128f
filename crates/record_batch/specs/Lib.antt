pub mod Batch
pub mod Spelled
pub mod Keeping
