pub mod Retained
pub mod Leaving
