pub mod Opened
pub mod Props
pub mod Recorder
pub mod Turns
