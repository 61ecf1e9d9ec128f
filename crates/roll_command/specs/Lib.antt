pub mod Enroll
pub mod Granting
pub mod Roll
