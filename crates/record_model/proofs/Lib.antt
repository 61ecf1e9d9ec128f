pub mod Made
pub mod Standing
pub mod Pieces
pub mod Continuing
