pub mod Limits
pub mod Counts
pub mod Cuts
pub mod Survey
pub mod Writing
pub mod Exporting
