pub mod Ranges
pub mod Frames
pub mod Opening
pub mod Accepted
