pub mod Same
pub mod Saying
pub mod Ending
pub mod Meanings
