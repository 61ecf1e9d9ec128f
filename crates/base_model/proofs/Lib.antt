pub mod Moves
pub mod Frees
pub mod Marks
pub mod Histories
pub mod Spelled
pub mod Used
pub mod Links
pub mod Honesty
