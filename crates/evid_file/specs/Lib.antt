pub mod Views
pub mod Pieces
pub mod Short
