mod Cuts
mod Hex
pub mod Joining
