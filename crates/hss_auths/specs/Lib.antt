pub mod Lengths
pub mod Views
