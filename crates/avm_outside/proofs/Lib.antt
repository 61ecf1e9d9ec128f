pub mod Tears
pub mod Images
pub mod Runs
pub mod DiskLogs
pub mod DiskCrashes
pub mod Choices
