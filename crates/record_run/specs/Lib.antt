pub mod Ends
pub mod Feeds
pub mod Lines
pub mod Runs
pub mod Turned
