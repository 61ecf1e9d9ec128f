pub mod Ending
mod Hex
pub mod Meanings
mod Parts
pub mod Items
pub mod Telling
pub mod WordEnds
