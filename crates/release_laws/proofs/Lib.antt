pub mod Pieces
pub mod Bound
pub mod Released
