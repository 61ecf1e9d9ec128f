pub mod Lines
pub mod Judging
pub mod Outcomes
pub mod Meaning
