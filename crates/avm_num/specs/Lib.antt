pub mod Bytes
pub mod Lists
pub mod Walk
pub mod Room
pub mod Sizes
