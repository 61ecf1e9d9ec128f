pub mod Noting
pub mod Rowing
pub mod Founds
pub mod Picked
pub mod Shorts
