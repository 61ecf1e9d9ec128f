pub mod Running
pub mod Whole
pub mod Sought
