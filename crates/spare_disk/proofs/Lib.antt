pub mod Images
pub mod Blanks
