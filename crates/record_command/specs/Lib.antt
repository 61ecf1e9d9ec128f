pub mod Ends
pub mod Inputs
pub mod Stores
pub mod Counts
pub mod Runs
pub mod Outcomes
pub mod Meaning
pub mod Names
