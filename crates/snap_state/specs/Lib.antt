pub mod Passed
pub mod Views
