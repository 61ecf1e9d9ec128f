pub mod Running
pub mod Starting
pub mod Whole
pub mod Sought
