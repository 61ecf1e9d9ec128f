pub mod Batches
pub mod Saved
pub mod Unsaved
