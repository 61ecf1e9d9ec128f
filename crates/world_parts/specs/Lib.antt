pub mod Holding
pub mod OneOutlet
pub mod Crash
