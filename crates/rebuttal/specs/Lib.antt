pub mod HeadPages
pub mod Seen
pub mod Starts
pub mod Compared
pub mod Answers
