pub mod Advancing
pub mod Going
pub mod Saying
pub mod SealLeft
pub mod Telling
pub mod TurnLeft
pub mod Cutting
