pub mod Places
pub mod Unequal
pub mod Views
pub mod Found
pub mod Walk
