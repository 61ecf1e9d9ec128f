pub mod Views
pub mod Coming
pub mod Places
pub mod Held
pub mod Fronts
pub mod Filling
pub mod Reading
