pub mod Gates
pub mod Tails
pub mod Steps
pub mod Standing
