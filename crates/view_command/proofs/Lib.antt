pub mod Differences
pub mod Ending
mod Hex
pub mod Long
pub mod Meanings
pub mod Rows
pub mod Shows
