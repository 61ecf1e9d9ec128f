pub mod Joins
pub mod Logs
pub mod Snaps
pub mod Keeping
pub mod Honesty
pub mod Openings
pub mod Exports
pub mod Marked
