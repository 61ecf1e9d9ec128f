pub mod Feeding
pub mod Planning
pub mod Stopping
