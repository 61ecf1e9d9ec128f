pub mod InputLaws
pub mod Counts
pub mod Saying
pub mod Widening
pub mod Narrowing
