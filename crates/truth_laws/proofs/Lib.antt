pub mod Snaps
pub mod Acts
pub mod Calls
