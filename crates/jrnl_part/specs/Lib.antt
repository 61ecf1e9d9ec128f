pub mod Views
pub mod Starts
pub mod Places
pub mod Carriage
pub mod First
