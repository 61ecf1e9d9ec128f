pub mod Counting
pub mod Ends
pub mod Cheating
pub mod Answers
