pub mod Running
pub mod Stretched
