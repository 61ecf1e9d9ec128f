pub mod Activating
pub mod Preparing
