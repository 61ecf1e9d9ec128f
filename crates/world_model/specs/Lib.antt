pub mod World
pub mod Deeds
pub mod EventView
pub mod Lines
