pub mod Ends
pub mod FileOf
pub mod Booting
pub mod Booted
pub mod First
pub mod Inputs
pub mod Outcomes
pub mod Meaning
