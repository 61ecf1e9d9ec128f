pub mod Board
pub mod Fields
pub mod Given
pub mod Lent
pub mod LentRam
pub mod Machine
pub mod Outs
pub mod Rest
