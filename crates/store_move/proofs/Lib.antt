pub mod Together
pub mod Answering
pub mod Moments
