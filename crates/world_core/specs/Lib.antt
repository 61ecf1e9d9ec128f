pub mod Gifts
pub mod Turns
pub mod Runs
pub mod Acts
pub mod Crashes
pub mod Nodes
pub mod Worlds
pub mod Joining
