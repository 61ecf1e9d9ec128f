pub mod Frames
pub mod Parcels
pub mod Comings
pub mod Takings
