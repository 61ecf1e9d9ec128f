pub mod Enrolling
pub mod Grants
pub mod PrivateKeys
pub mod Rolling
