pub mod Honest
pub mod Keeps
pub mod KeepPages
