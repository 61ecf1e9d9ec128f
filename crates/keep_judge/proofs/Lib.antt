pub mod Goodness
pub mod Patching
