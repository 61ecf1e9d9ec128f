pub mod Keeping
pub mod Sends
pub mod Rebuilds
pub mod Resends
pub mod Drops
