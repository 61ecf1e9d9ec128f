pub mod Turning
pub mod Opening
pub mod Steps
