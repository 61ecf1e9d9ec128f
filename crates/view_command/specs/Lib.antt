pub mod Ends
pub mod Lines
pub mod Meaning
pub mod Outcomes
pub mod Showing
