pub mod Running
pub mod Replayed
