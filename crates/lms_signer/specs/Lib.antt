pub mod Views
pub mod Signing
