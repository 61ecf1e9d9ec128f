pub mod Cutting
pub mod Surveyed
pub mod Wrote
pub mod Judged
