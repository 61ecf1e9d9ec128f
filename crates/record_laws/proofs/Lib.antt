pub mod Fronts
pub mod Truth
pub mod Kept
pub mod Moving
pub mod Turning
pub mod Joining
