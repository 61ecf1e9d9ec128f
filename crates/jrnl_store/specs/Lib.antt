pub mod Writing
pub mod Reading
pub mod Kept
pub mod Own
pub mod Items
pub mod Made
pub mod Frames
pub mod Retiring
