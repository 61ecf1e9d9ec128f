pub mod Part
pub mod Header
pub mod Journal
pub mod Standing
pub mod Spelling
pub mod Fits
pub mod Saving
