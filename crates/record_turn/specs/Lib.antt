pub mod Desk
pub mod Keeping
pub mod Leaves
