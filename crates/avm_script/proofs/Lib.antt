pub mod Spelled
pub mod Asked
pub mod Digits
pub mod Given
mod Cuts
mod Hex
mod Joining
mod Counts
mod Pages
