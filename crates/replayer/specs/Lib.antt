pub mod Incoming
pub mod Messages
pub mod Pending
pub mod Replaying
pub mod Taking
