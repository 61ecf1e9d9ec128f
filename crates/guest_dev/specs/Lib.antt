pub mod DevGot
pub mod Kept
pub mod Shown
